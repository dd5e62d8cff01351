-- A list seen tree by tree, for the theorems about its tables.
use Prim.Native.Nat.{ℕ, ◌+◌, ◌-◌}
use mathlib.Core.Bool.{Bool}
use mathlib.Core.List.{List}
use lib.Dec.{eqb}
use Rattle.format.specs.WordList.{word_of, list_count}
use Rattle.format.specs.Distinct.{tally}

-- word 0: 0 punct, 1 ident, 2 literal, 3 subtree
abbrev pub sort : List ℕ → ℕ → ℕ
sort l n = word_of l n 0

abbrev pub ident_at : List ℕ → ℕ → Bool
ident_at l n = eqb (sort l n) 1

abbrev pub literal_at : List ℕ → ℕ → Bool
literal_at l n = eqb (sort l n) 2

abbrev pub subtree_at : List ℕ → ℕ → Bool
subtree_at l n = eqb (sort l n) 3

-- how many trees below the root pass a test
abbrev pub below : List ℕ → (ℕ → Bool) → ℕ
below l f = tally (λ m. f (m + 1)) (list_count l - 1)
