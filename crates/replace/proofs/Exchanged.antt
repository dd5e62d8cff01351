-- What the answers of `set_token` mean: where it answers with sizes the outputs are admitted and read as the list with one leaf exchanged;
-- it refuses where a row holds and nowhere else, and changes no output then.
use Prim.Native.Nat.{ℕ, ◌*◌, ◌≤◌}
use mathlib.Core.Path.{◌≡◌, refl, sym, ap, ◌∙◌, subst₃}
use mathlib.Core.List.{List}
use native.Mathlib.Omega.{arith}
use borrow.Author.Tests.{le-leb}
use lib.ListN.{length, take, drop}
use Rattle.std.proofs.Common.{Result, Ok, Err}
use Rattle.format.specs.Verdict.{Verdict, passed, refused}
use Rattle.format.specs.Word.{put}
use Rattle.format.specs.Width.{part_size}
use Rattle.format.specs.Buffer.{own_reader, buffer_check}
use Rattle.format.specs.MakeTables.{part_table, symbol_table, part_total}
use Rattle.format.specs.Builder.{leaf_words}
use Rattle.format.specs.Replace.{fresh_bytes, exchanged, replace_verdict, replace_work, replace_out, report_of, LeafOnly}
use Rattle.format.specs.Unpack.{list_work, table_work, count_work, list_of}
use Rattle.format.proofs.TableLaw.{part_words_lem}
use Rattle.format.proofs.TableRuns.{run_take, run_drop}
use Rattle.format.proofs.Exchange.{replace_passes, replace_list, leaf_only, work_room, out_room, ReplaceRow, refused_row, row_refused}
use Rattle.tree.specs.Refusal.{verdict_answer}
use Rattle.tree.specs.declared.refusal.Refusal.{Refusal}
use Rattle.replace.specs.Report.{told_sizes, replace_answer}
use Rattle.replace.specs.Replaced.{Replaced}
use Rattle.replace.specs.Exchanged.{Exchanged}
use Rattle.replace.specs.declared.report.Sizes.{Sizes}

-- ---- an answer tells its verdict

pub same_sizes : (i p s j q t : ℕ) → told_sizes i p s ≡ told_sizes j q t → (i ≡ j) × (p ≡ q) × (s ≡ t)
same_sizes i p s j q t e =
    let f : record { bytes = i; parts = p; symbols = s } ≡ record { bytes = j; parts = q; symbols = t } = cc in
    (ap (λ (x : Sizes). x.bytes) f, ap (λ (x : Sizes). x.parts) f, ap (λ (x : Sizes). x.symbols) f)

pub answer_replaced : (l : List ℕ) (v : Verdict) (i p s : ℕ) → replace_answer (report_of l v) ≡ told_sizes i p s
    → (v ≡ passed) × (length (fresh_bytes l) ≡ i) × (part_total l ≡ p) × (length (symbol_table l) ≡ s)
unfolding replace_answer
answer_replaced l passed i p s e =
    let q = same_sizes (length (fresh_bytes l)) (part_total l) (length (symbol_table l)) i p s e in
    (refl, q.0, q.1, q.2)
answer_replaced l (refused r m) i p s e = cc

pub answer_refused : (l : List ℕ) (v : Verdict) (x : Refusal) → replace_answer (report_of l v) ≡ Err x → v ≡ refused x.number x.tree
unfolding replace_answer
answer_refused l passed x e = cc
answer_refused l (refused r m) x e =
    let f : record { number = r; tree = m } ≡ x = cc in
    ap (λ (y : Refusal). refused y.number y.tree) f

-- ---- its answer r, and what the lent runs hold then

module _ (b : List ℕ) (k : ℕ) (parts symbols : List ℕ) (n : ℕ) (w a c d x y z : List ℕ) (r : Result Sizes Refusal) (a' c' d' x' y' z' : List ℕ)
    (R : Replaced b k parts symbols n w a c d x y z r a' c' d' x' y' z') where
  abbrev verdict : Verdict
  verdict = replace_out b k parts symbols n w (length a) (length c) (length d) x y z

  abbrev new : List ℕ
  new = exchanged b k parts symbols n w

  module _ (i p s : ℕ) (e : r ≡ told_sizes i p s) where
    told : (verdict ≡ passed) × (length (fresh_bytes new) ≡ i) × (part_total new ≡ p) × (length (symbol_table new) ≡ s)
    told = answer_replaced new verdict i p s (sym R.answer ∙ e)

    -- the check, 10 and 2 are silent
    pub passes : replace_verdict b k parts symbols n w ≡ passed
    passes =
        let o = out_room b k parts symbols n w (length a) (length c) (length d) x y z told.0 in
        (work_room b k parts symbols n w (length a) (length c) (length d) o.0).0

    begins : (o o' vs : List ℕ) (j : ℕ) → o' ≡ put o 0 vs → length vs ≡ j → (take j o' ≡ vs) × (drop j o' ≡ drop j o)
    begins o o' vs j q h = (rw (q, ← h) (run_take o vs), rw (q, ← h) (run_drop o vs))

    pub replaced_is : Exchanged b k parts symbols n w x y z i p s x' y' z'
    unfolding verdict_answer
    replaced_is =
        let v = told.0 in
        let X = begins x x' (fresh_bytes new) i (R.runs.bytes ∙ rw v) told.1 in
        let Y = begins y y' (part_table new) (part_size * p) (R.runs.part_words ∙ rw v) (part_words_lem new ∙ ap (λ (j : ℕ). part_size * j) told.2) in
        let Z = begins z z' (symbol_table new) s (R.runs.symbol_words ∙ rw v) told.3 in
        record {
          buffer = X.0;
          part_words = Y.0;
          symbol_words = Z.0;
          only = subst₃ (λ (f g h : List ℕ). LeafOnly (own_reader b k parts symbols) (own_reader f k g h) n (leaf_words w)) (sym X.0) (sym Y.0) (sym Z.0)
              (leaf_only b k parts symbols n w passes);
          list = subst₃ (λ (f g h : List ℕ). list_of f k g h ≡ new) (sym X.0) (sym Y.0) (sym Z.0) (replace_list b k parts symbols n w passes);
          checks = λ u q. q ∙ ap verdict_answer (subst₃ (λ (f g h : List ℕ). buffer_check f k g h ≡ passed) (sym X.0) (sym Y.0) (sym Z.0) (replace_passes b k parts symbols n w passes));
          buffer_behind = X.1;
          parts_behind = Y.1;
          symbols_behind = Z.1;
        }

  -- it is not refused without a cause: behind the check, 10 and 2 room is all that is asked
  pub replaced_given : replace_verdict b k parts symbols n w ≡ passed → list_work k ≤ length a → table_work k ≤ length c → count_work k ≤ length d
      → length (fresh_bytes (exchanged b k parts symbols n w)) ≤ length x → length (part_table (exchanged b k parts symbols n w)) ≤ length y
      → length (symbol_table (exchanged b k parts symbols n w)) ≤ length z
      → r ≡ told_sizes (length (fresh_bytes (exchanged b k parts symbols n w))) (part_total (exchanged b k parts symbols n w)) (length (symbol_table (exchanged b k parts symbols n w)))
  unfolding replace_answer replace_out replace_work
  replaced_given ok ha hc hd hx hy hz =
      R.answer ∙ simp (ok, le-leb _ _ ha, le-leb _ _ hc, le-leb _ _ hd, le-leb _ _ hx, le-leb _ _ hy, le-leb _ _ hz)

  -- each refusal is given exactly where its row holds …
  pub refused_is : (q : Refusal) → r ≡ Err q → ReplaceRow b k parts symbols n w (length a) (length c) (length d) x y z q.number q.tree
  refused_is q e =
      refused_row b k parts symbols n w (length a) (length c) (length d) x y z q.number q.tree (answer_refused new verdict q (sym R.answer ∙ e))

  pub refused_given : (i t : ℕ) → ReplaceRow b k parts symbols n w (length a) (length c) (length d) x y z i t → r ≡ Err (record { number = i; tree = t })
  unfolding replace_answer
  refused_given i t h = R.answer ∙ rw (row_refused b k parts symbols n w (length a) (length c) (length d) x y z i t h)

  -- … and changes no output
  pub refused_kept : (q : Refusal) → r ≡ Err q → (x' ≡ x) × (y' ≡ y) × (z' ≡ z)
  refused_kept q e =
      let v = answer_refused new verdict q (sym R.answer ∙ e) in
      (R.runs.bytes ∙ rw v, R.runs.part_words ∙ rw v, R.runs.symbol_words ∙ rw v)
