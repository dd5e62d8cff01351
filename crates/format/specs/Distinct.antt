-- Tables, "Order: first appearance", and counts: the distinct keys of a run in order of first appearance, and how often a key stands.
-- Keys are known by their numbers 0, 1, ..; `live v` says that number v is a key at all, `alike u v` that two of them are the same key.
use Rattle.std.specs.Prelude.{ℕ, zero, suc, ◌+◌, Bool, false, ◌&&◌, ◌||◌, List, [], ◌∷◌, ◌++◌, if◌then◌else◌}

-- some element of the list passes
unfoldable pub any_in : (ℕ → Bool) → List ℕ → Bool
any_in f [] = false
any_in f (x ∷ xs) = f x || any_in f xs

-- how many of the numbers below n pass
unfoldable pub tally : (ℕ → Bool) → ℕ → ℕ
tally f zero = 0
tally f (suc n) = if f n then tally f n + 1 else tally f n

module _ (live : ℕ → Bool) (alike : ℕ → ℕ → Bool) where
  -- key n joins the list unless one like it is there
  abbrev pub joined : ℕ → List ℕ → List ℕ
  joined n ks = if any_in (λ u. alike u n) ks then ks else ks ++ n ∷ []

  -- the distinct keys below n
  unfoldable pub news : ℕ → List ℕ
  news zero = []
  news (suc n) = if live n then joined n (news n) else news n

  -- u is a key, the same as r
  abbrev pub hits : ℕ → ℕ → Bool
  hits r u = live u && alike r u

  -- how often the key r stands below n
  abbrev pub times : ℕ → ℕ → ℕ
  times n r = tally (hits r) n
