use borrow.Author.Rules.{rules}
use mathlib.Core.Path.{subst}
use mathlib.Core.List.{List}
use Prim.Native.Nat.{ℕ}
use Rattle.std.specs.Prelude.{Result}
use Rattle.std.proofs.lemmas.Result.{MatchResult-weaker}
use Rattle.tree.specs.declared.refusal.Refusal.{Refusal}
use Rattle.store.specs.Told.{Told}
use Rattle.store.specs.Tidy.{size_list}
use Rattle.store.proofs.Mapped.{told_mapped, ok_is}
use Rattle.store.proofs.tidy_buffer.tt_tidy.Goals as goal

pub returns : goal.returns
returns c =
    let t = told_mapped size_list 0 c.tidy-report.result c.map-size.result (MatchResult-weaker c.tidy-report.result c.map-size.ensures.cases (λ x h. ok_is _ _ _ (λ y p. search rules) h) (λ y h. h)) _ _ c.tell.ensures in
    record { answer = subst (λ (a : Result ℕ Refusal). Told {A = ℕ} size_list 0 a c.tell.result c.tell.new.told) c.tidy-report.ensures.answer t; runs = c.tidy-report.ensures.runs }
