-- One law for each return of the loops over a list of spans, whichever packer fills it.
use Prim.Native.Nat.{ℕ, suc, ◌+◌, ◌*◌, ◌-◌, ◌/◌, ◌^◌, ◌<◌, ◌≤◌}
use mathlib.Core.Bool.{Bool}
use mathlib.Core.Path.{◌≡◌, refl, sym, ap, ◌∙◌}
use mathlib.Core.List.{List}
use native.Mathlib.Omega.{arith}
use borrow.Author.Tests.{leb-true}
use lib.Dec.{leb, ltb}
use lib.ListN.{length}
use Rattle.std.specs.Prelude.{Result, Ok, Err}
use Rattle.format.specs.Verdict.{Verdict, passed, refused, rule, Report, wrote, refusal, report}
use Rattle.format.specs.Span.{Span}
use Rattle.format.specs.Fields.{span_fits}
use Rattle.format.specs.Pack.{span_form, pack_span, span_report, span_packed}
use Rattle.format.proofs.Each.{both, rule_passed}
use Rattle.pack.specs.Answer.{packed_answer}
use Rattle.pack.specs.Packing.{SpanPacked}
use Rattle.pack.proofs.Use.{never, written_same, span_unchanged}
use Rattle.reference.specs.Lists.{listed_span, behind, packed_from, refused_code, bytes_code, AllPacked}

-- ---- one answer and its report

refused_same : (k l : ℕ) → ◌≡◌ {A = Result ℕ ℕ} (Err k) (Err l) → k ≡ l
refused_same k l e = cc

report_wrote : (v : Report) (n : ℕ) → Ok n ≡ packed_answer v → v ≡ wrote n
unfolding packed_answer
report_wrote (wrote m) n e = ap wrote (sym (written_same n m e))
report_wrote (refusal k t) n e = never (Ok n) n k refl e

-- the tree's number of the refusal is of no account
refused_then : (v : Report) (k : ℕ) → Err k ≡ packed_answer v → (rest : ℕ → Report × List ℕ) (b : List ℕ) (at : ℕ)
    → (refused_code k ≡ bytes_code at (behind v rest b).0) × (b ≡ (behind v rest b).1)
unfolding packed_answer bytes_code
refused_then (wrote m) k e rest b at = never (Err k) m k e refl
refused_then (refusal l t) k e rest b at = (ap refused_code (refused_same k l e), refl)

report_passed : (v : Verdict) (m n : ℕ) → report v m ≡ wrote n → (v ≡ passed) × (m ≡ n)
report_passed passed m n e = (refl, cc)
report_passed (refused k t) m n e = let z : ◌≡◌ {A = ℕ} 0 1 = cc in absurd (omega arith)

module _ (b : List ℕ) (p : ℕ) (heavy : Bool) (x : ℕ) (s : Span) (r : Result ℕ ℕ) (b' : List ℕ) (c : SpanPacked b p heavy x s r b') (n : ℕ) (e : r ≡ Ok n) where
  wrote_is : span_report b p heavy x s ≡ wrote n
  wrote_is = report_wrote (span_report b p heavy x s) n (sym e ∙ c.answer)

  -- what was written lies inside the run
  written_inside : p + n ≤ length b
  written_inside =
      let v = report_passed (pack_span b p heavy x s) (length (span_form heavy x s)) n wrote_is in
      let f = (both (rule (leb x 3) 2 0) _ v.0).1 in
      let g = (both (rule (span_fits s) 2 0) _ f).1 in
      let h = (both (rule (ltb s.index 268435456) 8 0) _ g).1 in
      let k : p + length (span_form heavy x s) ≤ length b = leb-true _ _ (rule_passed (leb (p + length (span_form heavy x s)) (length b)) 6 0 h) in
      omega (arith, v.1)

  pub written_fits : (l : ℕ) → length b ≡ l → l * 1 < 2 ^ 63 → p + n < 18446744073709551616
  written_fits l q h = let k = written_inside in omega arith

-- ---- the loop

module _ (b₀ : List ℕ) (at : ℕ) (ws : List ℕ) (x : ℕ) (heavy : Bool) (count j : ℕ) (b : List ℕ) (p : ℕ)
    (d : count ≡ length ws / 3) (i : packed_from heavy x ws count 0 b₀ at ≡ packed_from heavy x ws (count - j) j b p) where
  pub all_over : count ≤ j → AllPacked b₀ at ws x heavy (p - at) b
  unfolding packed_from bytes_code
  all_over h =
      let e : count - j ≡ 0 = omega arith in
      let f = i ∙ ap (λ (m : ℕ). packed_from heavy x ws m j b p) e in
      let g = ap (λ (m : ℕ). packed_from heavy x ws m 0 b₀ at) (sym d) ∙ f in
      record { answer = sym (ap (λ (y : Report × List ℕ). bytes_code at y.0) g); contents = sym (ap (λ (y : Report × List ℕ). y.1) g) }

  module _ (h : j < count) (s : Span) (q : s ≡ listed_span ws j) (r : Result ℕ ℕ) (b' : List ℕ) (c : SpanPacked b p heavy x s r b') where
    abbrev rest : ℕ → Report × List ℕ
    rest n = packed_from heavy x ws (count - (j + 1)) (j + 1) (span_packed b p heavy x s) (p + n)

    all_step : packed_from heavy x ws count 0 b₀ at ≡ behind (span_report b p heavy x s) rest b
    unfolding packed_from
    all_step =
        let e : count - j ≡ suc (count - (j + 1)) = omega arith in
        i ∙ ap (λ (m : ℕ). packed_from heavy x ws m j b p) e ∙ rw q

    pub all_refused : (k y : ℕ) → r ≡ Err k → y ≡ refused_code k → AllPacked b₀ at ws x heavy y b'
    all_refused k y e f =
        let u = refused_then (span_report b p heavy x s) k (sym e ∙ c.answer) rest b at in
        let g = ap (λ (m : ℕ). packed_from heavy x ws m 0 b₀ at) (sym d) ∙ all_step in
        record {
          answer = f ∙ u.0 ∙ sym (ap (λ (y : Report × List ℕ). bytes_code at y.0) g);
          contents = span_unchanged b p heavy x s r b' c k e ∙ u.1 ∙ sym (ap (λ (y : Report × List ℕ). y.1) g);
        }

    pub all_on : (n : ℕ) → r ≡ Ok n → packed_from heavy x ws count 0 b₀ at ≡ packed_from heavy x ws (count - (j + 1)) (j + 1) b' (p + n)
    all_on n e = all_step ∙ rw (wrote_is b p heavy x s r b' c n e) (rw c.contents)

pub all_start : (b : List ℕ) (at : ℕ) (ws : List ℕ) (x : ℕ) (heavy : Bool) (count : ℕ) → packed_from heavy x ws count 0 b at ≡ packed_from heavy x ws (count - 0) 0 b at
all_start b at ws x heavy count = let e : count ≡ count - 0 = omega arith in ap (λ (m : ℕ). packed_from heavy x ws m 0 b at) e

pub ruleset pack_all_cases = (written_fits, all_over, all_refused, all_on, all_start)
