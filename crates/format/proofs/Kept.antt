-- A number that two calls keep: the library's `◌∙◌` for numbers alone, as a rule that `search` applies to no other equation.
use Prim.Native.Nat.{ℕ}
use mathlib.Core.Path.{◌≡◌, ◌∙◌}

pub kept : (a b c : ℕ) → a ≡ b → b ≡ c → a ≡ c
kept a b c e f = e ∙ f
