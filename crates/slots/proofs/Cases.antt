-- Cases on two numbers, and lengths that stay.
use Prim.Native.Nat.{ℕ}
use mathlib.Core.Logic.{◌⊎◌, inl, inr}
use mathlib.Core.Path.{◌≡◌}
use native.Mathlib.Decide.{ℕ_discrete}
pub use Rattle.format.proofs.Kept.{kept}

pub eq_or_ne : (a b : ℕ) → (a ≡ b) ⊎ (a ≡ b → ⊥)
eq_or_ne a b = elim (ℕ_discrete a b) [ yes h ↦ inl h | no n ↦ inr n ]
