-- One law for each return of the functions of src/tidy.rt, with premises as the code's tests and calls give them.
use Prim.Native.Nat.{ℕ, ◌+◌, ◌*◌, ◌-◌, ◌≤◌}
use mathlib.Core.Bool.{Bool, true, false, not, ◌&&◌}
use mathlib.Core.Path.{◌≡◌, refl, sym, ap, ◌∙◌, subst}
use mathlib.Core.List.{List}
use native.Mathlib.Omega.{arith}
use borrow.Author.Tests.{le-leb, not-true, not-false}
use lib.ListN.{length, take, drop}
use Rattle.std.specs.Prelude.{Result, Ok, Err, ⊤}
use Rattle.format.specs.Verdict.{passed, refused}
use Rattle.format.specs.Word.{put}
use Rattle.format.specs.Width.{tree_size}
use Rattle.format.specs.Buffer.{buffer_check}
use Rattle.format.specs.Write.{work_words}
use Rattle.format.specs.Tables.{own_tables}
use Rattle.format.specs.WordList.{list_count, list_sized, list_rules}
use Rattle.format.specs.Writer.{trees, work_verdict}
use Rattle.format.specs.Builder.{holding_all}
use Rattle.format.specs.Unpack.{list_work, count_work, work_fits, list_of}
use Rattle.format.specs.Tidy.{tidy_work, tidy_verdict}
use Rattle.format.proofs.Kept.{kept}
use Rattle.format.proofs.Put.{put_behind}
use Rattle.format.proofs.TableRuns.{run_take}
use Rattle.format.proofs.WriteSize.{work_size}
use Rattle.format.proofs.Holding.{lawful_holding}
use Rattle.format.proofs.ListOf.{list_length, list_count_lem, admitted_lawful}
use Rattle.tree.specs.Refusal.{verdict_answer, report_answer}
use Rattle.tree.specs.declared.refusal.Refusal.{Refusal}
use Rattle.tree.proofs.Answers.{answer_passed, answer_refused}
use Rattle.writer.specs.Written.{Written}
use Rattle.unpack.proofs.WorkReturns.{work_ample}
use Rattle.tidy.specs.Tidied.{WrittenAgain, Tidied}

-- ---- the list in work words, and its bytes

module _ (b : List ℕ) (k : ℕ) (parts symbols : List ℕ) (ok : buffer_check b k parts symbols ≡ passed) (a : List ℕ) (h : list_work k ≤ length a) where
  abbrev old : List ℕ
  old = list_of b k parts symbols

  -- no row of 1 to 5 is left, and the root holds all others as it says
  lawful : ((list_sized old && (own_tables parts symbols).sized) ≡ true) × (list_rules old ≡ passed) × (holding_all old ≡ old)
  lawful = lawful_holding parts symbols old (admitted_lawful b k parts symbols ok)

  pub list_room : tree_size * k ≤ length a
  list_room = omega arith

  module _ (a₁ : List ℕ) (e : a₁ ≡ put a 0 (list_of b k parts symbols)) (p : ℕ) (j : p ≡ k) where
    pub list_inside : length a₁ ≡ length a → tree_size * p ≤ length a₁
    list_inside q = omega arith

    -- the list as it is lent
    list_is : take (tree_size * p - 0) (drop 0 a₁) ≡ old
    list_is =
        let s : tree_size * p - 0 ≡ length old = omega (arith, list_length b k parts symbols ok) in
        rw (s, e) (run_take a old)

    pub list_sized_lem : (list_sized (take (tree_size * p - 0) (drop 0 a₁)) && (own_tables parts symbols).sized) ≡ true
    list_sized_lem = ap (λ (l : List ℕ). list_sized l && (own_tables parts symbols).sized) list_is ∙ lawful.0

    as_it_is : holding_all (take (tree_size * p - 0) (drop 0 a₁)) ≡ old
    as_it_is = ap holding_all list_is ∙ lawful.2

    pub list_ruled : list_rules (holding_all (take (tree_size * p - 0) (drop 0 a₁))) ≡ passed
    list_ruled = ap list_rules as_it_is ∙ lawful.1

    list_behind_lem : drop (list_work k) a₁ ≡ drop (list_work k) a
    list_behind_lem =
        let m = list_length b k parts symbols ok in
        ap (drop (list_work k)) e ∙ put_behind a 0 old (omega arith) (list_work k) (omega arith)

    module _ (d x : List ℕ) (f : count_work k ≤ length d) (r : Result ℕ Refusal) (d' x' : List ℕ) where
      works : work_verdict parts symbols old d x ≡ passed
      works =
          let n = list_count_lem b k parts symbols ok in
          simp (admitted_lawful b k parts symbols ok, le-leb (list_count old + 1) (length d) (omega arith))

      of_list : Written parts symbols old d x r d' x' → WrittenAgain b k parts symbols a d x r a₁ d' x'
      of_list W =
          let v = works in
          let n = list_count_lem b k parts symbols ok in
          let z = work_size parts symbols old in
          record {
            answer = W.answer ∙ rw v;
            bytes = W.outs ∙ rw v;
            list_behind = list_behind_lem;
            counts_behind = ap (drop (count_work k)) (W.works ∙ rw v) ∙ put_behind d 0 (work_words (trees parts symbols old)) (omega arith) (count_work k) (omega arith);
          }

      pub list_written : Written parts symbols (holding_all (take (tree_size * p - 0) (drop 0 a₁))) d x r d' x' → WrittenAgain b k parts symbols a d x r a₁ d' x'
      list_written W = of_list (subst (λ (l : List ℕ). Written parts symbols l d x r d' x') as_it_is W)

pub ruleset again_cases = (list_room, list_inside, list_sized_lem, list_ruled, list_written, kept)

-- ---- refusals before anything is written

pub check_passed : (b : List ℕ) (k : ℕ) (parts symbols : List ℕ) (v : Result ⊤ Refusal) → v ≡ verdict_answer (buffer_check b k parts symbols) → v ≡ Ok tt → buffer_check b k parts symbols ≡ passed
check_passed b k parts symbols v e q = answer_passed (buffer_check b k parts symbols) (sym e ∙ q)

pub work_room : (k a c d : ℕ) (u : Bool) → u ≡ work_fits k a c d → not u ≡ false → (list_work k ≤ a) × (count_work k ≤ d)
work_room k a c d u g f = let m = work_ample k a c d u g f in (m.0, m.2)

module _ (b : List ℕ) (k : ℕ) (parts symbols a c d x : List ℕ) where
  abbrev Rest : Result ℕ Refusal → Type 0
  Rest r = Tidied b k parts symbols a c d x r a d x

  none_changed : (r m : ℕ) → tidy_work b k parts symbols (length a) (length c) (length d) ≡ refused r m → Rest (Err (record { number = r; tree = m }))
  unfolding tidy_verdict report_answer
  none_changed r m e =
      record {
        answer = rw e;
        runs = record {
          bytes = rw e;
          list_left = record { kept = rw e; behind = refl };
          counts_left = record { kept = rw e; behind = refl };
        };
      }

  module _ (v : Result ⊤ Refusal) (e : v ≡ verdict_answer (buffer_check b k parts symbols)) where
    pub check_refused : (why : Refusal) → v ≡ Err why → Rest (Err why)
    unfolding tidy_work
    check_refused why q =
        let f = answer_refused (buffer_check b k parts symbols) why (sym e ∙ q) in
        none_changed why.number why.tree (rw f)

    module _ (q : v ≡ Ok tt) (u : Bool) (g : u ≡ work_fits k (length a) (length c) (length d)) where
      pub work_short : not u ≡ true → Rest (Err (record { number = 6; tree = 0 }))
      unfolding tidy_work
      work_short f =
          let o = check_passed b k parts symbols v e q in
          let j : work_fits k (length a) (length c) (length d) ≡ false = sym g ∙ not-true u f in
          none_changed 6 0 (simp (o, j))

      module _ (f : not u ≡ false) where
        fits : tidy_work b k parts symbols (length a) (length c) (length d) ≡ passed
        unfolding tidy_work
        fits =
            let o = check_passed b k parts symbols v e q in
            let j : work_fits k (length a) (length c) (length d) ≡ true = sym g ∙ not-false u f in
            simp (o, j)

        pub written_again : (r : Result ℕ Refusal) (a' d' x' : List ℕ) → WrittenAgain b k parts symbols a d x r a' d' x' → Tidied b k parts symbols a c d x r a' d' x'
        unfolding tidy_verdict
        written_again r a' d' x' R =
            let w = fits in
            record {
              answer = R.answer ∙ rw w;
              runs = record {
                bytes = R.bytes ∙ rw w;
                list_left = record { kept = rw w; behind = R.list_behind };
                counts_left = record { kept = rw w; behind = R.counts_behind };
              };
            }

pub ruleset tidy_cases = (check_passed, check_refused, work_short, written_again, kept)
