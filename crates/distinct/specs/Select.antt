-- The numbers of a stretch of trees that are keys, in rising order.
use Rattle.std.specs.Prelude.{ℕ, zero, suc, ◌+◌, ◌*◌, ◌/◌, ◌<◌, ◌≤◌, ◌≡◌, Bool, true, false, List, get_or}

-- the first number of the t-th tree below the root: a tree has one number of symbols, two of parts
unfoldable pub number_of : Bool → ℕ → ℕ
number_of true t = t
number_of false t = 2 * t

-- how many trees have n numbers
unfoldable pub trees_of : Bool → ℕ → ℕ
trees_of true n = n
trees_of false n = n / 2

-- where the numbers that are looked at for the j-th element begin: at a, or behind the element before
unfoldable pub lead_of : List ℕ → ℕ → ℕ → ℕ
lead_of b a zero = a
lead_of b a (suc j) = get_or b j 0 + 1

-- the first m elements of b are the numbers from a to before z that are keys
pub record Selected (live : ℕ → Bool) (a z m : ℕ) (b : List ℕ) : Type 0 where
  pub most : a + m ≤ z
  pub keys : (j : ℕ) → j < m → live (get_or b j 0) ≡ true
  pub rising : (j : ℕ) → j < m → lead_of b a j ≤ get_or b j 0
  pub within : (j : ℕ) → j < m → get_or b j 0 < z
  pub between : (j : ℕ) → j < m → (x : ℕ) → lead_of b a j ≤ x → x < get_or b j 0 → live x ≡ false
  pub last : lead_of b a m ≤ z
  pub behind : (x : ℕ) → lead_of b a m ≤ x → x < z → live x ≡ false
