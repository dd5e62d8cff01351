-- What the answers of `tidy` mean: where it answers Wrote n, the first n bytes are the writer's for the same list over the same tables; it refuses where a
-- row holds and nowhere else; two buffers get equal bytes exactly if they read as the same list.
use Prim.Native.Nat.{ℕ, ◌*◌, ◌≤◌}
use mathlib.Core.Path.{◌≡◌, refl, sym, ap, ◌∙◌, subst}
use mathlib.Core.List.{List}
use mathlib.Core.Logic.{◌↔◌}
use native.Mathlib.Omega.{arith}
use borrow.Author.Tests.{le-leb}
use lib.ListN.{length, take}
use Rattle.std.specs.Prelude.{Result, Ok, Err}
use Rattle.format.specs.Verdict.{Verdict, passed}
use Rattle.format.specs.Word.{AreBytes, put}
use Rattle.format.specs.Buffer.{buffer_check}
use Rattle.format.specs.Unpack.{list_work, table_work, count_work, list_of}
use Rattle.format.specs.Tidy.{tidied, tidy_work, tidy_verdict}
use Rattle.format.proofs.Each.{refused_not}
use Rattle.format.proofs.TableRuns.{run_length, run_take, run_drop}
use Rattle.format.proofs.TidyLaw.{tidy_passes, tidy_list, tidy_loose, tidy_twice, tidy_most, tidy_no_longer, tidy_same, TidyRow, of_check, short_work, short_out, tidy_refused, tidy_room}
use Rattle.tree.specs.Refusal.{verdict_answer, report_answer}
use Rattle.tree.specs.declared.refusal.Refusal.{Refusal}
use Rattle.tree.proofs.Answers.{report_wrote, report_refused}
use Rattle.tidy.specs.Tidied.{Tidied}
use Rattle.tidy.specs.InOrder.{InOrder}

-- ---- its answer r, and what the lent runs hold then

module _ (b : List ℕ) (k : ℕ) (parts symbols a c d x : List ℕ) (r : Result ℕ Refusal) (a' d' x' : List ℕ) (T : Tidied b k parts symbols a c d x r a' d' x') where
  abbrev verdict : Verdict
  verdict = tidy_verdict b k parts symbols (length a) (length c) (length d) x

  abbrev new : List ℕ
  new = tidied b k parts symbols

  module _ (n : ℕ) (e : r ≡ Ok n) where
    told : (verdict ≡ passed) × (length new ≡ n)
    told = report_wrote verdict (length new) n (sym T.answer ∙ e)

    -- the check is silent, and every run has room
    pub passes : (buffer_check b k parts symbols ≡ passed) × (list_work k ≤ length a) × (table_work k ≤ length c) × (count_work k ≤ length d)
        × (length (tidied b k parts symbols) ≤ length x)
    passes = tidy_room b k parts symbols (length a) (length c) (length d) x told.0

    out_is : x' ≡ put x 0 new
    out_is = T.runs.bytes ∙ rw told.0

    pub tidied_is : InOrder b k parts symbols x n x'
    unfolding verdict_answer
    tidied_is =
        let f : take n x' ≡ new = rw (out_is, ← told.1) (run_take x new) in
        record {
          bytes = f;
          checks = λ u q. q ∙ ap verdict_answer (subst (λ (y : List ℕ). buffer_check y k parts symbols ≡ passed) (sym f) (tidy_passes b k parts symbols passes.0));
          list = ap (λ (y : List ℕ). list_of y k parts symbols) f ∙ tidy_list b k parts symbols passes.0;
          loose = rw f (tidy_loose b k parts symbols passes.0);
          again = rw f (tidy_twice b k parts symbols passes.0);
          told = sym told.1;
          behind = rw (out_is, ← told.1) (run_drop x new);
          size = ap length out_is ∙ run_length x new passes.4;
        }

  -- it is not refused without a cause: behind the check room is all that is asked, no row of 1 to 5
  pub tidied_given : buffer_check b k parts symbols ≡ passed → list_work k ≤ length a → table_work k ≤ length c → count_work k ≤ length d
      → length (tidied b k parts symbols) ≤ length x → r ≡ Ok (length (tidied b k parts symbols))
  unfolding report_answer tidy_verdict tidy_work
  tidied_given ok ha hc hd hx = T.answer ∙ simp (ok, le-leb _ _ ha, le-leb _ _ hc, le-leb _ _ hd, le-leb _ _ hx)

  -- 33 bytes a tree are room enough
  pub ample_given : buffer_check b k parts symbols ≡ passed → list_work k ≤ length a → table_work k ≤ length c → count_work k ≤ length d → 33 * k ≤ length x
      → r ≡ Ok (length (tidied b k parts symbols))
  ample_given ok ha hc hd hx = let m = tidy_most b k parts symbols ok in tidied_given ok ha hc hd (omega arith)

  -- as many bytes as the buffer has are room enough …
  pub same_room_given : AreBytes b → buffer_check b k parts symbols ≡ passed → list_work k ≤ length a → table_work k ≤ length c → count_work k ≤ length d → length b ≤ length x
      → r ≡ Ok (length (tidied b k parts symbols))
  same_room_given h ok ha hc hd hx = let m = tidy_no_longer b k parts symbols ok h in tidied_given ok ha hc hd (omega arith)

  -- … and no more are written
  pub no_longer : AreBytes b → (n : ℕ) → r ≡ Ok n → n ≤ length b
  no_longer h n e = let m = tidy_no_longer b k parts symbols (passes n e).0 h in let q = (told n e).1 in omega arith

  -- each refusal is given exactly where its row holds …
  pub refused_is : (q : Refusal) → r ≡ Err q → TidyRow b k parts symbols (length a) (length c) (length d) x q.number q.tree
  refused_is q e =
      (tidy_refused b k parts symbols (length a) (length c) (length d) x q.number q.tree).0 (report_refused verdict (length new) q (sym T.answer ∙ e))

  pub refused_given : (i t : ℕ) → TidyRow b k parts symbols (length a) (length c) (length d) x i t → r ≡ Err (record { number = i; tree = t })
  unfolding report_answer
  refused_given i t h = T.answer ∙ rw ((tidy_refused b k parts symbols (length a) (length c) (length d) x i t).1 h)

  -- behind the check only 6 is left, no row of 1 to 5
  pub six_alone : buffer_check b k parts symbols ≡ passed → (q : Refusal) → r ≡ Err q → (q.number ≡ 6) × (q.tree ≡ 0)
  six_alone ok q e = row_six q.number q.tree (refused_is q e)
    where
      row_six : (i t : ℕ) → TidyRow b k parts symbols (length a) (length c) (length d) x i t → (i ≡ 6) × (t ≡ 0)
      row_six i t (of_check r m f) = refused_not r m (sym f ∙ ok)
      row_six i t (short_work p f) = (refl, refl)
      row_six i t (short_out p f) = (refl, refl)

  -- … and changes no byte of the output
  pub refused_kept : (q : Refusal) → r ≡ Err q → x' ≡ x
  refused_kept q e = let v = report_refused verdict (length new) q (sym T.answer ∙ e) in T.runs.bytes ∙ rw v

-- ---- two calls over the same tables

module _ (b₁ : List ℕ) (k₁ : ℕ) (parts symbols a₁ c₁ d₁ x₁ : List ℕ) (n : ℕ) (a₁' d₁' x₁' : List ℕ) (T₁ : Tidied b₁ k₁ parts symbols a₁ c₁ d₁ x₁ (Ok n) a₁' d₁' x₁') where
  ok₁ : buffer_check b₁ k₁ parts symbols ≡ passed
  ok₁ = (passes b₁ k₁ parts symbols a₁ c₁ d₁ x₁ (Ok n) a₁' d₁' x₁' T₁ n refl).0

  first : InOrder b₁ k₁ parts symbols x₁ n x₁'
  first = tidied_is b₁ k₁ parts symbols a₁ c₁ d₁ x₁ (Ok n) a₁' d₁' x₁' T₁ n refl

  -- "two admitted buffers with the same tables tidy to equal bytes exactly if they read as the same list"
  module _ (b₂ : List ℕ) (k₂ : ℕ) (a₂ c₂ d₂ x₂ : List ℕ) (m : ℕ) (a₂' d₂' x₂' : List ℕ) (T₂ : Tidied b₂ k₂ parts symbols a₂ c₂ d₂ x₂ (Ok m) a₂' d₂' x₂') where
    ok₂ : buffer_check b₂ k₂ parts symbols ≡ passed
    ok₂ = (passes b₂ k₂ parts symbols a₂ c₂ d₂ x₂ (Ok m) a₂' d₂' x₂' T₂ m refl).0

    second : InOrder b₂ k₂ parts symbols x₂ m x₂'
    second = tidied_is b₂ k₂ parts symbols a₂ c₂ d₂ x₂ (Ok m) a₂' d₂' x₂' T₂ m refl

    pub same_is : (take n x₁' ≡ take m x₂') ↔ (list_of b₁ k₁ parts symbols ≡ list_of b₂ k₂ parts symbols)
    same_is =
        let s = tidy_same b₁ b₂ k₁ k₂ parts symbols ok₁ ok₂ in
        (λ e. s.0 (sym first.bytes ∙ e ∙ second.bytes), λ e. first.bytes ∙ s.1 e ∙ sym second.bytes)

  -- "Tidying a second time changes nothing": with room, the bytes that the first call wrote are written again, as many
  module _ (a₂ c₂ d₂ x₂ : List ℕ) (r : Result ℕ Refusal) (a₂' d₂' x₂' : List ℕ) (T₂ : Tidied (take n x₁') k₁ parts symbols a₂ c₂ d₂ x₂ r a₂' d₂' x₂')
      (ha : list_work k₁ ≤ length a₂) (hc : table_work k₁ ≤ length c₂) (hd : count_work k₁ ≤ length d₂) (hx : n ≤ length x₂) where
    same_bytes : tidied (take n x₁') k₁ parts symbols ≡ tidied b₁ k₁ parts symbols
    same_bytes = first.again ∙ first.bytes

    as_long : length (tidied (take n x₁') k₁ parts symbols) ≡ n
    as_long = ap length same_bytes ∙ sym first.told

    checked : buffer_check (take n x₁') k₁ parts symbols ≡ passed
    checked = subst (λ (y : List ℕ). buffer_check y k₁ parts symbols ≡ passed) (sym first.bytes) (tidy_passes b₁ k₁ parts symbols ok₁)

    pub again_told : r ≡ Ok n
    again_told =
        tidied_given (take n x₁') k₁ parts symbols a₂ c₂ d₂ x₂ r a₂' d₂' x₂' T₂ checked ha hc hd (subst (λ (i : ℕ). i ≤ length x₂) (sym as_long) hx)
        ∙ ap Ok as_long

    pub again_is : take n x₂' ≡ take n x₁'
    again_is = (tidied_is (take n x₁') k₁ parts symbols a₂ c₂ d₂ x₂ r a₂' d₂' x₂' T₂ n again_told).bytes ∙ first.again
