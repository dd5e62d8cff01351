-- A buffer's list written again over the buffer's tables: what that gives, that equal bytes mean equal lists, and that each refusal is given exactly where its row holds.
use Prim.Native.Nat.{ℕ, ◌+◌, ◌*◌, ◌≤◌}
use mathlib.Core.Bool.{false}
use mathlib.Core.Path.{◌≡◌, refl, sym, ap, ◌∙◌, subst}
use mathlib.Core.List.{List}
use mathlib.Core.Logic.{◌↔◌}
use native.Mathlib.Omega.{arith}
use borrow.Author.Tests.{leb-true}
use lib.Dec.{leb}
use lib.ListN.{length}
use Rattle.format.specs.Verdict.{passed, refused, rule}
use Rattle.format.specs.Word.{AreBytes}
use Rattle.format.specs.Reader.{Shape, Reader, Reply, got, bad}
use Rattle.format.specs.Check.{place_of, tree_of}
use Rattle.format.specs.Buffer.{word_shape, own_reader, buffer_check}
use Rattle.format.specs.WordList.{list_count}
use Rattle.format.specs.Writer.{list_verdict, packed}
use Rattle.format.specs.Lister.{buffer_loose}
use Rattle.format.specs.Unpack.{list_work, table_work, count_work, work_fits, list_of}
use Rattle.format.specs.Tidy.{tidied, tidy_fits, tidy_work, tidy_verdict}
use Rattle.format.specs.Shortest.{Stores}
use Rattle.format.proofs.Each.{both, and₃, rule_passed, then_refused, rule_refused, renumber}
use Rattle.format.proofs.Own.{own_sound}
use Rattle.format.proofs.WriterLaw.{packed_passes, packed_is}
use Rattle.format.proofs.WriteSize.{packed_most}
use Rattle.format.proofs.LooseCount.{packed_loose}
use Rattle.format.proofs.ListOf.{list_count_lem, admitted_lawful}
use Rattle.format.proofs.Shortest.{nothing_shorter}

-- ---- of an admitted buffer

module _ (b : List ℕ) (k : ℕ) (parts symbols : List ℕ) (ok : buffer_check b k parts symbols ≡ passed) where
  abbrev l : List ℕ
  l = list_of b k parts symbols

  -- no row of 1 to 5 is left
  lawful : list_verdict parts symbols l ≡ passed
  lawful = admitted_lawful b k parts symbols ok

  as_many : list_count l ≡ k
  as_many = list_count_lem b k parts symbols ok

  -- no span below the root is longer than needed
  pub tidy_loose : buffer_loose (tidied b k parts symbols) k parts symbols ≡ 0
  tidy_loose = subst (λ x. buffer_loose (tidied b k parts symbols) x parts symbols ≡ 0) as_many (packed_loose parts symbols l lawful)

  pub tidy_passes : buffer_check (tidied b k parts symbols) k parts symbols ≡ passed
  tidy_passes = subst (λ x. buffer_check (tidied b k parts symbols) x parts symbols ≡ passed) as_many (packed_passes parts symbols l lawful)

  pub tidy_list : list_of (tidied b k parts symbols) k parts symbols ≡ list_of b k parts symbols
  unfolding list_of
  tidy_list = subst (λ x. list_of (tidied b k parts symbols) x parts symbols ≡ l) as_many (packed_is parts symbols l lawful)

  -- 33 bytes a tree suffice
  pub tidy_most : length (tidied b k parts symbols) ≤ 33 * k
  tidy_most = let m = packed_most parts symbols l in let c = as_many in omega arith

  -- a buffer of bytes does not grow
  pub tidy_no_longer : AreBytes b → length (tidied b k parts symbols) ≤ length b
  tidy_no_longer h =
      let s : Stores k parts symbols l b = record { bytes = h; passes = ok; reads = refl } in
      (nothing_shorter k parts symbols l b s).none b s

  -- "Tidying a second time changes nothing"
  pub tidy_twice : tidied (tidied b k parts symbols) k parts symbols ≡ tidied b k parts symbols
  tidy_twice = ap (packed parts symbols) tidy_list

-- what the writer has made is tidy
pub tidy_written : (parts symbols l : List ℕ) → list_verdict parts symbols l ≡ passed → tidied (packed parts symbols l) (list_count l) parts symbols ≡ packed parts symbols l
unfolding list_of
tidy_written parts symbols l ok = ap (packed parts symbols) (packed_is parts symbols l ok)

-- ---- a buffer has one tree count: its root stores it

tree_any : {Tree : Type 0} (S : Shape Tree) (Q R : Reader Tree) (r : Reply Tree) → tree_of S Q r ≡ tree_of S R r
tree_any S Q R (got t next kids) = refl
tree_any S Q R (bad r) = refl

pub one_count : (b : List ℕ) (k j : ℕ) (parts symbols : List ℕ) → buffer_check b k parts symbols ≡ passed → buffer_check b j parts symbols ≡ passed → k ≡ j
unfolding own_reader place_of
one_count b k j parts symbols ok ok' =
    sym (own_sound b k parts symbols ok).holds_all
    ∙ ap (λ (t : List ℕ). 0 + 1 + word_shape.count t) (tree_any word_shape (own_reader b k parts symbols) (own_reader b j parts symbols) ((own_reader b k parts symbols).read 0 0))
    ∙ (own_sound b j parts symbols ok').holds_all

-- "two admitted buffers with the same tables tidy to equal bytes exactly if they read as the same list"
module _ (b c : List ℕ) (k j : ℕ) (parts symbols : List ℕ) (ok : buffer_check b k parts symbols ≡ passed) (ok' : buffer_check c j parts symbols ≡ passed) where
  same_list : tidied b k parts symbols ≡ tidied c j parts symbols → list_of b k parts symbols ≡ list_of c j parts symbols
  same_list e =
      let x : buffer_check (tidied b k parts symbols) j parts symbols ≡ passed = subst (λ y. buffer_check y j parts symbols ≡ passed) (sym e) (tidy_passes c j parts symbols ok') in
      let i = one_count (tidied b k parts symbols) k j parts symbols (tidy_passes b k parts symbols ok) x in
      sym (tidy_list b k parts symbols ok)
      ∙ ap (λ (m : ℕ). list_of (tidied b k parts symbols) m parts symbols) i
      ∙ ap (λ (y : List ℕ). list_of y j parts symbols) e
      ∙ tidy_list c j parts symbols ok'

  pub tidy_same : (tidied b k parts symbols ≡ tidied c j parts symbols) ↔ (list_of b k parts symbols ≡ list_of c j parts symbols)
  tidy_same = (same_list, ap (packed parts symbols))

-- ---- the refusals

module _ (b : List ℕ) (k : ℕ) (parts symbols : List ℕ) (a c d : ℕ) (out : List ℕ) where
  -- number, tree number: the check's own, then 6
  pub data TidyRow : ℕ → ℕ → Type 0 where
    of_check : (r m : ℕ) → buffer_check b k parts symbols ≡ refused r m → TidyRow r m
    short_work : buffer_check b k parts symbols ≡ passed → work_fits k a c d ≡ false → TidyRow 6 0
    short_out : tidy_work b k parts symbols a c d ≡ passed → tidy_fits b k parts symbols out ≡ false → TidyRow 6 0

  refused_row : (r m : ℕ) → tidy_verdict b k parts symbols a c d out ≡ refused r m → TidyRow r m
  unfolding tidy_verdict tidy_work
  refused_row r m e =
      then_refused (tidy_work b k parts symbols a c d) (rule (tidy_fits b k parts symbols out) 6 0) r m
      (λ f.
      then_refused (buffer_check b k parts symbols) (rule (work_fits k a c d) 6 0) r m
      (of_check r m)
      (λ p g.
      let x = rule_refused (work_fits k a c d) 6 0 r m g in
      renumber TidyRow x.1 x.2 (short_work p x.0))
      f)
      (λ p f.
      let x = rule_refused (tidy_fits b k parts symbols out) 6 0 r m f in
      renumber TidyRow x.1 x.2 (short_out p x.0))
      e

  row_refused : (r m : ℕ) → TidyRow r m → tidy_verdict b k parts symbols a c d out ≡ refused r m
  unfolding tidy_verdict tidy_work
  row_refused r m (of_check s x e) = rw e
  row_refused r m (short_work p e) = rw (p, e)
  row_refused r m (short_out p e) = rw (p, e)

  pub tidy_refused : (r m : ℕ) → (tidy_verdict b k parts symbols a c d out ≡ refused r m) ↔ TidyRow r m
  tidy_refused r m = (refused_row r m, row_refused r m)

  -- passed: the check passes, and every run has room
  pub tidy_room : tidy_verdict b k parts symbols a c d out ≡ passed
      → (buffer_check b k parts symbols ≡ passed) × (list_work k ≤ a) × (table_work k ≤ c) × (count_work k ≤ d) × (length (tidied b k parts symbols) ≤ length out)
  unfolding tidy_verdict tidy_work
  tidy_room e =
      let x = both (tidy_work b k parts symbols a c d) (rule (tidy_fits b k parts symbols out) 6 0) e in
      let y = both (buffer_check b k parts symbols) (rule (work_fits k a c d) 6 0) x.0 in
      let z = and₃ (leb (list_work k) a) (leb (table_work k) c) (leb (count_work k) d) (rule_passed (work_fits k a c d) 6 0 y.1) in
      (y.0, leb-true _ _ z.0, leb-true _ _ z.1, leb-true _ _ z.2, leb-true _ _ (rule_passed (tidy_fits b k parts symbols out) 6 0 x.1))
