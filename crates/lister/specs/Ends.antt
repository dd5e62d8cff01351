-- The lister's stack of the ends of open subtrees, as a list whose first is the innermost's.
use Rattle.std.specs.Prelude.{ℕ, ◌+◌, ◌≤◌, ◌<◌, true, ◌≡◌, List, ◌∷◌, length, if◌then◌else◌}
use Rattle.format.specs.Nest.{still_open}
use Rattle.format.proofs.OpenEnds.{open_ends}
use Rattle.format.specs.Tree.{Raw, is_subtree, count_of}

-- those that tree n is past are closed
pub record Closed (ends : List ℕ) (depth n r : ℕ) : Type 0 where
  pub fewer : r ≤ depth
  pub left : open_ends ends r ≡ still_open n (open_ends ends depth)

-- a subtree opens one
abbrev pub push : ℕ → Raw → List ℕ → List ℕ
push n t es = if is_subtree t then (n + 1 + count_of t) ∷ es else es

-- there is room for it, and its end is a number
pub record Opens (ends : List ℕ) (depth n : ℕ) (t : Raw) : Type 0 where
  pub size : length ends ≡ 256
  pub few : depth ≤ 256
  pub room : is_subtree t ≡ true → depth < 256
  pub end : is_subtree t ≡ true → n + 1 + count_of t < 4294967296

-- the same, before those that tree n is past are closed
pub record Follows (ends : List ℕ) (depth n : ℕ) (t : Raw) : Type 0 where
  pub size : length ends ≡ 256
  pub few : depth ≤ 256
  pub room : is_subtree t ≡ true → length (still_open n (open_ends ends depth)) < 256
  pub end : is_subtree t ≡ true → n + 1 + count_of t < 4294967296

pub record Pushed (ends : List ℕ) (depth n : ℕ) (t : Raw) (r : ℕ) (ends' : List ℕ) : Type 0 where
  pub size : length ends' ≡ 256
  pub few : r ≤ 256
  pub left : open_ends ends' r ≡ push n t (open_ends ends depth)
