-- The distinct keys of a run as they are gathered: by rank their numbers and counts, and a hash table of ranks.
use Rattle.std.specs.Prelude.{ℕ, ◌<◌, ◌≤◌, ◌≡◌, Bool, List, IfSome, length, get_or, eqb}
use Rattle.std.specs.Prelude.{Option}
use Rattle.format.specs.Distinct.{news, times}
use Rattle.format.specs.MakeTables.{alike_at}
use Rattle.keys.specs.Keys.{live_in, slot_of}
use Rattle.slots.specs.Probe.{probe}
use Rattle.slots.specs.declared.probe.Looked.TheVariants.{Found}

-- rank e, of the ranks whose keys f holds, is the same key as v
unfoldable pub like_rank : List ℕ → Bool → List ℕ → ℕ → ℕ → Bool
like_rank l symbols f v e = alike_at l symbols (get_or f e 0) v

-- every element is at most n
unfoldable pub UpTo : ℕ → List ℕ → Type 0
UpTo n t = (k : ℕ) → get_or t k 0 ≤ n

-- the first p elements are below n
unfoldable pub Under : ℕ → ℕ → List ℕ → Type 0
Under p n f = (k : ℕ) → k < p → get_or f k 0 < n

-- The keys below v are gathered: p of them are distinct, f and c hold number and count by rank.
pub record Gathered (live : ℕ → Bool) (alike : ℕ → ℕ → Bool) (v p : ℕ) (f c : List ℕ) : Type 0 where
  pub number : p ≡ length (news live alike v)
  pub keys : (r : ℕ) → r < p → get_or f r 0 ≡ get_or (news live alike v) r 0
  pub counts : (r : ℕ) → r < p → get_or c r 0 ≡ times live alike v (get_or (news live alike v) r 0)

-- Every rank below p is found by probing from the slot of its key.
pub record Reached (slot : ℕ → ℕ) (size p : ℕ) (t f : List ℕ) : Type 0 where
  pub wide : length t ≡ size
  pub entries : (k : ℕ) → get_or t k 0 ≤ p
  pub reach : (r : ℕ) → r < p → probe size t (λ e. eqb e r) (slot (get_or f r 0)) size ≡ Found r

-- both, for the keys of one class of a list
pub record Filled (l : List ℕ) (symbols : Bool) (classes class size v p : ℕ) (t f c : List ℕ) : Type 0 where
  pub gathered : Gathered (live_in l symbols classes class) (alike_at l symbols) v p f c
  pub reached : Reached (slot_of l symbols size) size p t f

-- the same where there is room for the distinct keys
abbrev pub FilledIf : ℕ → List ℕ → Bool → ℕ → ℕ → ℕ → ℕ → Option ℕ → List ℕ → List ℕ → List ℕ → Type 0
FilledIf room l symbols classes class size v r t f c = IfSome r (λ p. (p ≤ room) × Filled l symbols classes class size v p t f c)
