-- One law for each return of root rewriting.
use Prim.Native.Nat.{ℕ}
use mathlib.Core.Path.{◌≡◌, ap, ◌∙◌, subst}
use mathlib.Core.List.{List}
use Rattle.std.specs.Prelude.{Result, ⊤}
use Rattle.format.specs.Width.{span_size}
use Rattle.tree.specs.declared.types.Span.{Span}
use Rattle.root.specs.Rewrite.{KindSet, SpansSet}
use Rattle.export.specs.Replies.{verdict_code}
use Rattle.export.specs.Roots.{span_in, KindReplied, SpansReplied}
use Rattle.tree.specs.declared.refusal.Refusal.{Refusal}

module _ (b : List ℕ) (k : ℕ) (parts symbols : List ℕ) (v : Result ⊤ Refusal) (r : ℕ) (q : r ≡ verdict_code v) where
  pub kind_replied : (d : ℕ) (b' : List ℕ) → KindSet b k parts symbols d v b' → KindReplied b k parts symbols d r b'
  kind_replied d b' h = record { reply = q ∙ ap verdict_code h.answer; contents = h.contents }

  pub spans_replied : (l : List ℕ) (s t : Span) (b' parts' : List ℕ) → s ≡ span_in l 0 → t ≡ span_in l span_size
      → SpansSet b k parts symbols s t v b' parts' → SpansReplied b k parts symbols (span_in l 0) (span_in l span_size) r b' parts'
  spans_replied l s t b' parts' e f h =
      let g : SpansReplied b k parts symbols s t r b' parts' = record { reply = q ∙ ap verdict_code h.answer; contents = h.contents; table = h.table } in
      subst (λ (x : Span). SpansReplied b k parts symbols (span_in l 0) x r b' parts') f
      (subst (λ (x : Span). SpansReplied b k parts symbols x t r b' parts') e g)

pub ruleset root_cases = (kind_replied, spans_replied)
