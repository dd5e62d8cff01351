-- One law for each return of a reply in one number.
use Prim.Native.Nat.{ℕ}
use mathlib.Core.Path.{◌≡◌, ap, ◌∙◌}
use Rattle.std.specs.Prelude.{Result, ⊤}
use Rattle.tree.specs.declared.refusal.Refusal.{Refusal}
use Rattle.export.specs.Replies.{verdict_code}

pub verdict_told : (v w : Result ⊤ Refusal) (c : ℕ) → v ≡ w → c ≡ verdict_code v → c ≡ verdict_code w
verdict_told v w c e q = q ∙ ap verdict_code e

pub ruleset reply_cases = verdict_told
