-- What the answers of `check_buffer` and `check` mean: `Ok` is given to the admitted buffers and to no other, and a refusal where its row holds first.
use Prim.Native.Nat.{ℕ, ◌/◌, ◌%◌}
use mathlib.Core.Path.{◌≡◌, sym, ap, ◌∙◌}
use mathlib.Core.List.{List}
use lib.ListN.{length}
use Rattle.std.specs.Prelude.{Result, Ok, Err, ⊤}
use Rattle.format.specs.Verdict.{passed}
use Rattle.format.specs.Check.{check, Admitted}
use Rattle.format.specs.Rule.{WalkRule}
use Rattle.format.specs.Width.{part_size}
use Rattle.format.specs.Buffer.{word_shape, own_reader, buffer_check, raw_shape, size_reader}
use Rattle.format.specs.WordList.{list_count}
use Rattle.format.specs.Writer.{list_verdict, packed}
use Rattle.format.proofs.RawReader.{own_check}
use Rattle.format.proofs.CheckRefusal as rows
use Rattle.format.proofs.CheckLaw.{check_sound, check_complete}
use Rattle.format.proofs.TreeRefusal.{own_refusal, refusal_own}
use Rattle.format.proofs.Own.{own_sound, own_complete, own_walk_rule}
use Rattle.format.proofs.WriterLaw.{packed_passes}
use Rattle.tree.specs.Refusal.{verdict_answer}
use Rattle.tree.specs.declared.refusal.Refusal.{Refusal}
use Rattle.tree.proofs.Answers.{answer_passed, answer_refused}

-- ---- check_buffer: r is its answer

module _ (b : List ℕ) (k : ℕ) (parts symbols : List ℕ) (r : Result ⊤ Refusal) (says : r ≡ verdict_answer (buffer_check b k parts symbols)) where
  module _ (e : r ≡ Ok tt) where
    pub passes : buffer_check b k parts symbols ≡ passed
    passes = answer_passed (buffer_check b k parts symbols) (sym says ∙ e)

    pub passed_admitted : Admitted word_shape (own_reader b k parts symbols)
    passed_admitted = own_sound b k parts symbols passes

    -- … so every list of walk and cursor calls over the buffer is the plain machine's
    pub passed_rule : WalkRule word_shape (own_reader b k parts symbols)
    passed_rule = own_walk_rule b k parts symbols passes

  pub admitted_passed : Admitted word_shape (own_reader b k parts symbols) → r ≡ Ok tt
  unfolding verdict_answer
  admitted_passed a = says ∙ ap verdict_answer (own_complete b k parts symbols a)

  -- "Each number is given when its row holds and no earlier check fails, never otherwise."
  pub refused_row : (x : Refusal) → r ≡ Err x → rows.Refused word_shape (own_reader b k parts symbols) x.number x.tree
  refused_row x e = own_refusal b k parts symbols x.number x.tree (answer_refused (buffer_check b k parts symbols) x (sym says ∙ e))

  pub row_refused : (n t : ℕ) → rows.Refused word_shape (own_reader b k parts symbols) n t → r ≡ Err (record { number = n; tree = t })
  unfolding verdict_answer
  row_refused n t h = says ∙ ap verdict_answer (refusal_own b k parts symbols n t h)

-- ---- check: the same by sizes alone

module _ (b : List ℕ) (k parts symbols : ℕ) (r : Result ⊤ Refusal) (says : r ≡ verdict_answer (check raw_shape (size_reader b k parts symbols))) where
  pub sizes_admitted : r ≡ Ok tt → Admitted raw_shape (size_reader b k parts symbols)
  sizes_admitted e = check_sound raw_shape (size_reader b k parts symbols) (answer_passed _ (sym says ∙ e))

  pub sizes_passed : Admitted raw_shape (size_reader b k parts symbols) → r ≡ Ok tt
  unfolding verdict_answer
  sizes_passed a = says ∙ ap verdict_answer (check_complete raw_shape (size_reader b k parts symbols) a)

-- both answer alike where the part words are whole parts
pub alike : (b : List ℕ) (k : ℕ) (parts symbols : List ℕ) (r s : Result ⊤ Refusal) → length parts % part_size ≡ 0 → r ≡ verdict_answer (buffer_check b k parts symbols)
    → s ≡ verdict_answer (check raw_shape (size_reader b k (length parts / part_size) (length symbols))) → r ≡ s
alike b k parts symbols r s h e f = e ∙ ap verdict_answer (own_check b k parts symbols h) ∙ sym f

-- ---- whatever the writer makes is passed

pub packed_passed : (parts symbols l : List ℕ) (r : Result ⊤ Refusal) → list_verdict parts symbols l ≡ passed
    → r ≡ verdict_answer (buffer_check (packed parts symbols l) (list_count l) parts symbols) → r ≡ Ok tt
unfolding verdict_answer
packed_passed parts symbols l r ok e = e ∙ ap verdict_answer (packed_passes parts symbols l ok)
