-- Text in a run of bytes, as far as the run goes.
use Rattle.std.specs.Prelude.{ℕ, ◌+◌, min, ◌≡◌, List, length}
use Rattle.std.proofs.lemmas.List.Edits.{sets}

-- what a run holds after a text is put from place `at` on, and the place behind it. A byte past the run's end is left out
pub record Typed (b : List ℕ) (at : ℕ) (text : List ℕ) (r : ℕ) (b' : List ℕ) : Type 0 where
  pub next : r ≡ min (at + length text) (length b)
  pub contents : b' ≡ sets b at text
