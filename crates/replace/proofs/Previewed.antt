-- What the answers of `preview` mean: those that `set_token` gives of outputs with room enough, and the lengths that it then writes.
use Prim.Native.Nat.{ℕ, ◌*◌, ◌≤◌}
use mathlib.Core.Bool.{true, false}
use mathlib.Core.Path.{◌≡◌, sym, ap, ◌∙◌}
use mathlib.Core.List.{List}
use native.Mathlib.Omega.{arith}
use borrow.Author.Tests.{le-leb}
use lib.ListN.{length}
use Rattle.std.proofs.Common.{Result, Ok, Err}
use Rattle.format.specs.Verdict.{Verdict, passed}
use Rattle.format.specs.Width.{part_size}
use Rattle.format.specs.MakeTables.{part_table, symbol_table, part_total}
use Rattle.format.specs.Replace.{fresh_bytes, exchanged, out_fits, report_of, replace_verdict, replace_work}
use Rattle.format.specs.Unpack.{list_work, table_work, count_work, work_fits}
use Rattle.format.proofs.TableLaw.{part_words_lem}
use Rattle.format.proofs.Exchange.{out_room}
use Rattle.format.proofs.PreviewLaw.{work_same, preview_same, PreviewRow, preview_refused, six_short}
use Rattle.tree.specs.declared.refusal.Refusal.{Refusal}
use Rattle.replace.specs.Report.{told_sizes, replace_answer}
use Rattle.replace.specs.Left.{worked}
use Rattle.replace.specs.Replaced.{Replaced}
use Rattle.replace.specs.Exchanged.{Exchanged}
use Rattle.replace.specs.Previewed.{Previewed}
use Rattle.replace.specs.declared.report.Sizes.{Sizes}
use Rattle.replace.proofs.Exchanged.{same_sizes, answer_replaced, answer_refused, replaced_is}

-- its answer r, and what the work words hold then
module _ (b : List ℕ) (k : ℕ) (parts symbols : List ℕ) (n : ℕ) (w a c d : List ℕ) (r : Result Sizes Refusal) (a' c' d' : List ℕ) (P : Previewed b k parts symbols n w a c d r a' c' d') where
  abbrev new : List ℕ
  new = exchanged b k parts symbols n w

  abbrev verdict : Verdict
  verdict = worked b k parts symbols n w a c d

  -- what is told are the sizes of the new buffer and of the new tables, in entries
  pub sizes_told : (i p s : ℕ) → r ≡ told_sizes i p s
      → (verdict ≡ passed) × (length (fresh_bytes (exchanged b k parts symbols n w)) ≡ i) × (part_total (exchanged b k parts symbols n w) ≡ p) × (length (symbol_table (exchanged b k parts symbols n w)) ≡ s)
  sizes_told i p s e = answer_replaced new verdict i p s (sym P.answer ∙ e)

  -- it is not refused without a cause
  pub previewed_given : replace_verdict b k parts symbols n w ≡ passed → list_work k ≤ length a → table_work k ≤ length c → count_work k ≤ length d
      → r ≡ told_sizes (length (fresh_bytes (exchanged b k parts symbols n w))) (part_total (exchanged b k parts symbols n w)) (length (symbol_table (exchanged b k parts symbols n w)))
  unfolding replace_answer replace_work
  previewed_given ok ha hc hd = P.answer ∙ simp (ok, le-leb _ _ ha, le-leb _ _ hc, le-leb _ _ hd)

  -- each refusal is ticket 1's, at its tree, and given exactly where its row holds …
  pub refused_is : (q : Refusal) → r ≡ Err q → PreviewRow b k parts symbols n w (length a) (length c) (length d) q.number q.tree
  refused_is q e =
      (preview_refused b k parts symbols n w (length a) (length c) (length d) q.number q.tree).0 (answer_refused new verdict q (sym P.answer ∙ e))

  pub refused_given : (i t : ℕ) → PreviewRow b k parts symbols n w (length a) (length c) (length d) i t → r ≡ Err (record { number = i; tree = t })
  unfolding replace_answer
  refused_given i t h = P.answer ∙ rw ((preview_refused b k parts symbols n w (length a) (length c) (length d) i t).1 h)

  -- … and changes no work word
  pub refused_kept : (q : Refusal) → r ≡ Err q → (a' ≡ a) × (c' ≡ c) × (d' ≡ d)
  refused_kept q e =
      let v = answer_refused new verdict q (sym P.answer ∙ e) in
      (P.left.list_left.kept ∙ rw v, P.left.tables_left.kept ∙ rw v, P.left.counts_left.kept ∙ rw v)

  -- "6 can then come only from a short work run"
  pub six_is : (t : ℕ) → r ≡ Err (record { number = 6; tree = t }) → (t ≡ 0) × (replace_verdict b k parts symbols n w ≡ passed) × (work_fits k (length a) (length c) (length d) ≡ false)
  six_is t e = six_short b k parts symbols n w (length a) (length c) (length d) t (answer_refused new verdict _ (sym P.answer ∙ e))

  -- ---- beside replacing, whose work words are long enough exactly if the preview's are

  module _ (x y z : List ℕ) (r₂ : Result Sizes Refusal) (a₂ c₂ d₂ a₂' c₂' d₂' x' y' z' : List ℕ) (R : Replaced b k parts symbols n w a₂ c₂ d₂ x y z r₂ a₂' c₂' d₂' x' y' z')
      (works : work_fits k (length a₂) (length c₂) (length d₂) ≡ work_fits k (length a) (length c) (length d)) where
    verdicts : replace_work b k parts symbols n w (length a₂) (length c₂) (length d₂) ≡ verdict
    verdicts = work_same b k parts symbols n w (length a₂) (length c₂) (length d₂) (length a) (length c) (length d) works

    -- "Its answer is the one that Ticket 1 gives on a copy with room enough, refusals included": enough is what the preview tells
    pub preview_is : ((i p s : ℕ) → r ≡ told_sizes i p s → (i ≤ length x) × (part_size * p ≤ length y) × (s ≤ length z)) → r₂ ≡ r
    unfolding replace_answer
    preview_is room =
        R.answer
        ∙ ap replace_answer (preview_same b k parts symbols n w (length a₂) (length c₂) (length d₂) x y z (λ v. fits (sym verdicts ∙ v)) ∙ ap (report_of new) verdicts)
        ∙ sym P.answer
      where
        fits : verdict ≡ passed → out_fits new x y z ≡ true
        fits v =
            let e : r ≡ told_sizes (length (fresh_bytes new)) (part_total new) (length (symbol_table new)) = P.answer ∙ rw v in
            let h = room (length (fresh_bytes new)) (part_total new) (length (symbol_table new)) e in
            let m = part_words_lem new in
            let i = h.1 in
            simp (le-leb _ _ h.0, le-leb (length (part_table new)) (length y) (omega arith), le-leb _ _ h.2)

    -- the lengths that replacing then writes are the preview's
    pub preview_lengths : (i p s : ℕ) → r ≡ told_sizes i p s → i ≤ length x → part_size * p ≤ length y → s ≤ length z
        → (r₂ ≡ told_sizes i p s) × Exchanged b k parts symbols n w x y z i p s x' y' z'
    preview_lengths i p s e hx hy hz =
        let f = preview_is (λ j q t g. enough j q t (sym e ∙ g)) ∙ e in
        (f, replaced_is b k parts symbols n w a₂ c₂ d₂ x y z r₂ a₂' c₂' d₂' x' y' z' R i p s f)
      where
        enough : (j q t : ℕ) → told_sizes i p s ≡ told_sizes j q t → (j ≤ length x) × (part_size * q ≤ length y) × (t ≤ length z)
        enough j q t g =
            let e = same_sizes i p s j q t g in
            let α = e.0 in
            let β = e.1 in
            let γ = e.2 in
            (omega arith, omega arith, omega arith)

    -- … and what replacing has answered, whatever room it had, the preview answers
    pub replaced_before : (i p s : ℕ) → r₂ ≡ told_sizes i p s → r ≡ told_sizes i p s
    unfolding replace_answer
    replaced_before i p s e =
        let v = answer_replaced new _ i p s (sym R.answer ∙ e) in
        let o : verdict ≡ passed = sym verdicts ∙ (out_room b k parts symbols n w (length a₂) (length c₂) (length d₂) x y z v.0).0 in
        P.answer ∙ rw (o, v.1, v.2, v.3)
