-- What the answers of `encode_list` mean: where it answers Wrote n, the first n bytes are the list's, which the check passes and which read as it;
-- it refuses where a row holds and nowhere else.
use Prim.Native.Nat.{ℕ, ◌+◌, ◌*◌, ◌-◌, ◌≤◌}
use mathlib.Core.Path.{◌≡◌, refl, sym, ap, ◌∙◌, subst, subst₃}
use mathlib.Core.List.{List}
use native.Mathlib.Omega.{arith}
use borrow.Author.Tests.{le-leb, leb-true}
use lib.Dec.{leb}
use lib.ListN.{length, take, drop}
use Rattle.std.specs.Prelude.{Result, Ok, Err}
use Rattle.format.specs.Verdict.{Verdict, passed, refused, ◌and_then◌, rule}
use Rattle.format.specs.Word.{put}
use Rattle.format.specs.Write.{work_words}
use Rattle.format.specs.WordList.{list_count}
use Rattle.format.specs.Writer.{list_verdict, trees, packed, work_verdict, writer_verdict}
use Rattle.format.specs.Shortest.{Stores, Shortest}
use Rattle.format.proofs.Each.{both, rule_passed, then_refused, rule_refused}
use Rattle.format.proofs.TableRuns.{run_length, run_take, run_drop}
use Rattle.format.proofs.WriteSize.{packed_most, work_size}
use Rattle.format.proofs.WriterLaw.{packed_passes, packed_reads, packed_is}
use Rattle.format.proofs.WriterRefusal.{WriterRefused, refusal_is, refusal_given}
use Rattle.format.proofs.Shortest.{written_shortest}
use Rattle.tree.specs.Refusal.{verdict_answer, report_answer}
use Rattle.tree.specs.declared.refusal.Refusal.{Refusal}
use Rattle.tree.proofs.Answers.{report_wrote, report_refused}
use Rattle.writer.specs.Written.{Written}
use Rattle.writer.specs.Encoded.{Encodes, Wrote}

-- the definition's bytes of a list that rows 1 to 5 pass
pub packed_encodes : (parts symbols l : List ℕ) → list_verdict parts symbols l ≡ passed → Encodes parts symbols l (packed parts symbols l)
unfolding verdict_answer
packed_encodes parts symbols l ok =
    record {
      bytes = refl;
      checks = λ r e. e ∙ ap verdict_answer (packed_passes parts symbols l ok);
      reads = packed_reads parts symbols l ok;
      whole = packed_is parts symbols l ok;
    }

-- 33 bytes a tree suffice
pub bytes_enough : (parts symbols l out : List ℕ) → 33 * list_count l ≤ length out → length (packed parts symbols l) ≤ length out
bytes_enough parts symbols l out h = let m = packed_most parts symbols l in omega arith

-- ---- encode_list: its answer r, and what the lent runs hold then

module _ (parts symbols l work out : List ℕ) (r : Result ℕ Refusal) (work' out' : List ℕ) (w : Written parts symbols l work out r work' out') where
  abbrev bytes : List ℕ
  bytes = packed parts symbols l

  abbrev words : List ℕ
  words = work_words (trees parts symbols l)

  module _ (n : ℕ) (e : r ≡ Ok n) where
    told : (writer_verdict parts symbols l work out ≡ passed) × (length bytes ≡ n)
    told = report_wrote (writer_verdict parts symbols l work out) (length bytes) n (sym w.answer ∙ e)

    -- row 6 is silent on the work words and on the output
    passes : (work_verdict parts symbols l work out ≡ passed) × (rule (leb (length bytes) (length out)) 6 0 ≡ passed)
    passes = both (work_verdict parts symbols l work out) (rule (leb (length bytes) (length out)) 6 0) told.0

    listed : (list_verdict parts symbols l ≡ passed) × (rule (leb (list_count l + 1) (length work)) 6 0 ≡ passed)
    listed = both (list_verdict parts symbols l) (rule (leb (list_count l + 1) (length work)) 6 0) passes.0

    out_is : out' ≡ put out 0 bytes
    out_is = w.outs ∙ rw told.0

    work_is : work' ≡ put work 0 words
    work_is = w.works ∙ rw passes.0

    out_room : length bytes ≤ length out
    out_room = leb-true (length bytes) (length out) (rule_passed (leb (length bytes) (length out)) 6 0 passes.1)

    work_room : length words ≤ length work
    work_room =
        let h = leb-true (list_count l + 1) (length work) (rule_passed (leb (list_count l + 1) (length work)) 6 0 listed.1) in
        let z = work_size parts symbols l in
        omega arith

    wrote_all : Wrote parts symbols l work out (length bytes) (put work 0 words) (put out 0 bytes)
    wrote_all =
        let z = work_size parts symbols l in
        record {
          fits = out_room;
          encodes = subst (Encodes parts symbols l) (sym (run_take out bytes)) (packed_encodes parts symbols l listed.0);
          behind = run_drop out bytes;
          size = run_length out bytes out_room;
          works = ap (λ (j : ℕ). take j (put work 0 words)) (sym z) ∙ run_take work words;
          works_behind = ap (λ (j : ℕ). drop j (put work 0 words)) (sym z) ∙ run_drop work words ∙ ap (λ (j : ℕ). drop j work) z;
          works_size = run_length work words work_room;
        }

    -- DEMAND 2
    pub wrote : Wrote parts symbols l work out n work' out'
    wrote = subst₃ (Wrote parts symbols l work out) told.1 (sym work_is) (sym out_is) wrote_all

    shortest : Shortest (list_count l) parts symbols l
    shortest = written_shortest parts symbols l listed.0

    -- no buffer of the list over these tables has fewer bytes (document 02, ticket 7) …
    pub wrote_fewest : (b : List ℕ) → Stores (list_count l) parts symbols l b → n ≤ length b
    wrote_fewest b s = let m = shortest.none b s in let q = told.1 in omega arith

    -- … and how many there can be
    pub wrote_within : (33 + 5 * (list_count l - 1) ≤ n) × (n ≤ 33 * list_count l)
    wrote_within = let a = shortest.least in let z = shortest.most in let q = told.1 in (omega arith, omega arith)

  -- it is not refused without a cause: a list that rows 1 to 5 pass is written wherever there is room
  pub wrote_given : list_verdict parts symbols l ≡ passed → list_count l + 1 ≤ length work → length (packed parts symbols l) ≤ length out
      → r ≡ Ok (length (packed parts symbols l))
  unfolding report_answer
  wrote_given ok h g = w.answer ∙ simp (ok, le-leb _ _ h, le-leb _ _ g)

  -- "Each number is given when its row holds and no earlier check fails, never otherwise."
  pub refused_row : (x : Refusal) → r ≡ Err x → WriterRefused parts symbols l work out x.number x.tree
  refused_row x e =
      refusal_is parts symbols l work out x.number x.tree
      (report_refused (writer_verdict parts symbols l work out) (length bytes) x (sym w.answer ∙ e))

  pub row_refused : (i t : ℕ) → WriterRefused parts symbols l work out i t → r ≡ Err (record { number = i; tree = t })
  unfolding report_answer
  row_refused i t h = w.answer ∙ rw (refusal_given parts symbols l work out i t h)

  -- over tables that rows 1 to 5 pass, row 6 is the only one left
  pub six_alone : list_verdict parts symbols l ≡ passed → (x : Refusal) → r ≡ Err x → (x.number ≡ 6) × (x.tree ≡ 0)
  six_alone ok x e =
      let v = report_refused (writer_verdict parts symbols l work out) (length bytes) x (sym w.answer ∙ e) in
      let u : Verdict = rule (leb (list_count l + 1) (length work)) 6 0 in
      let o : Verdict = rule (leb (length bytes) (length out)) 6 0 in
      let f : (u and_then o) ≡ refused x.number x.tree = rw ok at v in
      then_refused u o x.number x.tree
      (λ g. let z = rule_refused (leb (list_count l + 1) (length work)) 6 0 x.number x.tree g in (sym z.1, sym z.2))
      (λ p g. let z = rule_refused (leb (length bytes) (length out)) 6 0 x.number x.tree g in (sym z.1, sym z.2))
      f

  -- a refusal changes nothing of the output
  pub refused_kept : (x : Refusal) → r ≡ Err x → out' ≡ out
  refused_kept x e = w.outs ∙ rw (report_refused (writer_verdict parts symbols l work out) (length bytes) x (sym w.answer ∙ e))
