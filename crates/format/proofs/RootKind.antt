-- The root's kind rewritten: the buffer stays admitted, and of its list word 2 of tree 0 is the new kind; nothing else has changed.
use Prim.Native.Nat.{ℕ, ◌+◌, ◌*◌, ◌/◌, ◌%◌, ◌≤◌}
use mathlib.Core.Bool.{Bool, true, false}
use mathlib.Core.Path.{◌≡◌, refl, ap, ◌∙◌}
use mathlib.Core.List.{List, [], ◌∷◌}
use native.Mathlib.Omega.{arith}
use borrow.Author.Tests.{ltb-true, ltb-false}
use lib.Dec.{leb, ltb}
use lib.ListN.{length}
use Rattle.format.specs.Verdict.{Verdict, passed, refused, rule}
use Rattle.format.specs.Word.{byte_at, word_at}
use Rattle.format.specs.Reader.{Reader, got}
use Rattle.format.specs.Check.{listing}
use Rattle.format.specs.Tree.{Raw, subtree, tree_at}
use Rattle.format.specs.Tables.{tree_words, own_mode}
use Rattle.format.specs.Buffer.{word_shape, own_reader, buffer_check}
use Rattle.format.specs.Root.{kind_verdict, new_kind, kind_after, OnlyKind, with_kind, RootOnly}
use Rattle.format.proofs.Each.{both, rule_passed}
use Rattle.format.proofs.CheckLaw.{check_complete}
use Rattle.format.proofs.Put.{put_length, put_before, put_at, put_after}
use Rattle.format.proofs.Local.{Agree, word_same, span_same}
use Rattle.format.proofs.RootRead.{RootStands, root_read}
use Rattle.format.proofs.BelowRoot.{Kept}
use Rattle.format.proofs.NewRoot.{Root, root_of_lem, rewritten, admitted}

module _ (b : List ℕ) (k : ℕ) (parts symbols : List ℕ) (d : ℕ) where
  abbrev old : Reader (List ℕ)
  old = own_reader b k parts symbols

  abbrev verdict : Verdict
  verdict = kind_verdict b k parts symbols d

  abbrev after : List ℕ
  after = kind_after b k parts symbols d

  abbrev new : List ℕ
  new = new_kind b d

  -- what stands at byte 12 then
  abbrev vs : List ℕ
  vs = (byte_at b 12 % 8 + 8 * d) ∷ []

  module _ (ok : verdict ≡ passed) where
    kind_passed : (buffer_check b k parts symbols ≡ passed) × (leb d 3 ≡ true)
    unfolding kind_verdict
    kind_passed =
        let v = both (buffer_check b k parts symbols) (rule (leb d 3) 2 0) ok in
        (v.0, rule_passed (leb d 3) 2 0 v.1)

    root : Root b k (own_mode parts symbols)
    root = root_of_lem b k (own_mode parts symbols) (admitted b k parts symbols kind_passed.0)

    fit : 12 + 1 ≤ length b
    fit = let h = root.stands.room in omega arith

    byte_12 : byte_at new 12 ≡ byte_at b 12 % 8 + 8 * d
    byte_12 = put_at b 12 vs fit 0 (omega arith)

    kept : Kept b new (own_mode parts symbols) (own_mode parts symbols)
    kept =
        record {
          size = put_length b 12 vs fit;
          bytes = λ i l. put_after b 12 vs fit i (omega arith);
          sized = refl;
          limit = refl;
          root = refl;
          symbols = refl;
          entries = λ i l. refl;
        }

    -- the bytes before and behind
    before : Agree new b 0 12
    before = record { size = kept.size; same = λ i x y. put_before b 12 vs fit i y }

    behind : Agree new b 13 33
    behind = record { size = kept.size; same = λ i x y. put_after b 12 vs fit i x }

    stands : RootStands new root.opening root.closing
    stands =
        let S = root.stands in
        let h = S.room in
        let l = kept.size in
        let e = byte_12 in
        let f = S.form in
        record {
          room = omega arith;
          opens = span_same new b 0 12 before 0 (omega arith) (omega arith) ∙ S.opens;
          form = rw e (omega arith);
          extra = S.extra;
          closes = span_same new b 13 33 behind 13 (omega arith) (omega arith) ∙ S.closes;
        }

    new_root : Raw
    new_root = subtree root.opening root.closing (word_at b 25) d

    reads : tree_at new 0 ≡ got new_root 33 (word_at b 29)
    unfolding new_root
    reads =
        let s = root.opening in
        let t = root.closing in
        let e = byte_12 in
        let x = word_same new b 13 33 behind 25 (omega arith) (omega arith) in
        let y = word_same new b 13 33 behind 29 (omega arith) (omega arith) in
        let z : byte_at new 12 / 8 ≡ d = rw e (omega arith) in
        root_read new s t stands ∙ (λ i. got (subtree s t (x i) (z i)) 33 (y i))

    changed : RootOnly old (own_reader new k parts symbols) (tree_words (own_mode parts symbols) 0 new_root)
    unfolding new_root own_reader
    changed =
        let a = admitted b k parts symbols kind_passed.0 in
        let s = root.in_open in
        let t = root.in_close in
        let l = kind_passed.1 in
        let x = root.first in
        let y = root.last in
        rewritten b k (own_mode parts symbols) a new (own_mode parts symbols) kept root.opening root.closing d reads (simp (s, t, l)) (simp (x, y))

    -- the buffer stays admitted; of its list, word 2 of tree 0 is the new kind and all else is as it was
    pub kind_rewritten : RootOnly old (own_reader after k parts symbols) (with_kind d ((listing word_shape old).tree 0))
    unfolding own_reader tree_words kind_after new_root
    kind_rewritten =
        let e : with_kind d ((listing word_shape old).tree 0) ≡ tree_words (own_mode parts symbols) 0 new_root = ap (with_kind d) root.words in
        rw (ok, e) changed

    -- … so it passes the check again
    pub kind_passes : buffer_check after k parts symbols ≡ passed
    kind_passes = check_complete word_shape (own_reader after k parts symbols) kind_rewritten.admitted

    pub kind_stored : after ≡ new
    unfolding kind_after
    kind_stored = rw ok

  -- ---- for every input

  pub kind_refused : (r n : ℕ) → verdict ≡ refused r n → after ≡ b
  unfolding kind_after
  kind_refused r n e = rw e

  pub kind_bytes : OnlyKind b after
  kind_bytes = go verdict refl
    where
      go : (v : Verdict) → verdict ≡ v → OnlyKind b after
      go (refused r n) e = rw (kind_refused r n e) (record { size = refl; others = λ i h. refl; low_bits = refl })
      go passed e =
          let x = byte_12 e in
          rw (kind_stored e) (record { size = (kept e).size; others = λ i h. other i h (ltb i 12) refl; low_bits = rw x (omega arith) })
        where
          other : (i : ℕ) → (i ≡ 12 → ⊥) → (y : Bool) → ltb i 12 ≡ y → byte_at new i ≡ byte_at b i
          other i h true t = put_before b 12 vs (fit e) i (ltb-true i 12 t)
          other i h false t = let l = ltb-false i 12 t in put_after b 12 vs (fit e) i (omega arith)

  -- what each way out says
  pub kind_unchecked : (r n : ℕ) → buffer_check b k parts symbols ≡ refused r n → verdict ≡ refused r n
  unfolding kind_verdict
  kind_unchecked r n e = rw e

  pub kind_high : buffer_check b k parts symbols ≡ passed → leb d 3 ≡ false → verdict ≡ refused 2 0
  unfolding kind_verdict
  kind_high e f = simp (e, f)

  pub kind_fits : buffer_check b k parts symbols ≡ passed → leb d 3 ≡ true → verdict ≡ passed
  unfolding kind_verdict
  kind_fits e f = simp (e, f)
