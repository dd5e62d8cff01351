-- The root's spans rewritten: the buffer stays admitted, and of its list the spans of tree 0 are the new spans; nothing else has changed.
use Prim.Native.Nat.{ℕ, ◌+◌, ◌*◌, ◌-◌, ◌/◌, ◌%◌, ◌≤◌, ◌<◌}
use lib.Dec.{eqb}
use mathlib.Core.Bool.{true, false, ◌&&◌}
use mathlib.Core.Path.{◌≡◌, refl, sym, ap, ◌∙◌}
use mathlib.Core.List.{List, ◌∷◌, ◌++◌}
use native.Mathlib.Omega.{arith}
use borrow.Author.Tests.{eq-eqb, leb-true}
use lib.ListN.{length, get_or}
use Rattle.format.specs.Verdict.{Verdict, passed, refused, rule}
use Rattle.format.specs.Word.{byte_at, word_at, put}
use Rattle.format.specs.Span.{Span, span, span_at}
use Rattle.format.specs.Reader.{Reader, got}
use Rattle.format.specs.Check.{listing, Admitted}
use Rattle.format.specs.Tree.{Raw, subtree, tree_at}
use Rattle.format.specs.Fields.{span_fits}
use Rattle.format.specs.Tables.{Mode, entry_at, tree_words, tables_sized, part_count, own_mode, own_tables}
use Rattle.format.specs.Buffer.{word_shape, reader, own_reader, buffer_check}
use Rattle.format.specs.Write.{heavy_bytes}
use Rattle.format.specs.Root.{range_fits, spans_verdict, new_spans, new_parts, spans_after, parts_after, OnlySpans, with_spans, RootOnly}
use Rattle.format.specs.Width.{part_size}
use Rattle.format.specs.Part.{WordSpan, part_words, part_at, span_list, indexed}
use Rattle.format.proofs.Each.{and_left, and_right, both, rule_passed}
use Rattle.format.proofs.PartLaw.{entry_same, part_drop}
use Rattle.format.proofs.CheckLaw.{check_complete}
use Rattle.format.proofs.Holds.{Holds}
use Rattle.format.proofs.SpanBack.{Packable, heavy_back}
use Rattle.format.proofs.Put.{put_length, put_before, put_at, put_after, put_holds}
use Rattle.format.proofs.Local.{Agree, word_same}
use Rattle.format.proofs.RootRead.{RootStands, root_read}
use Rattle.format.proofs.BelowRoot.{Kept}
use Rattle.format.proofs.NewRoot.{Root, root_of_lem, rewritten, admitted, sizes}

module _ (b : List ℕ) (k : ℕ) (parts symbols : List ℕ) (opening closing : WordSpan) where
  abbrev P : ℕ
  P = part_count parts symbols

  abbrev old : Reader (List ℕ)
  old = own_reader b k parts symbols

  abbrev verdict : Verdict
  verdict = spans_verdict b k parts symbols opening closing

  abbrev after : List ℕ
  after = spans_after b k parts symbols opening closing

  abbrev parts_now : List ℕ
  parts_now = parts_after b k parts symbols opening closing

  abbrev new : List ℕ
  new = new_spans b (P - 2) opening closing

  abbrev table : List ℕ
  table = new_parts parts opening closing

  abbrev S : Span
  S = indexed (P - 2) opening

  abbrev U : Span
  U = indexed (P - 2 + 1) closing

  abbrev xs : List ℕ
  xs = heavy_bytes 0 S

  abbrev ys : List ℕ
  ys = heavy_bytes 0 U

  abbrev pair : List ℕ
  pair = part_words opening.part ++ part_words closing.part

  module _ (ok : verdict ≡ passed) where
    spans_passed : (buffer_check b k parts symbols ≡ passed) × (span_fits S ≡ true) × (span_fits U ≡ true)
    unfolding spans_verdict
    spans_passed =
        let v = both (buffer_check b k parts symbols) (rule (span_fits S && span_fits U) 2 0) ok in
        let w = rule_passed (span_fits S && span_fits U) 2 0 v.1 in
        (v.0, and_left (span_fits S) (span_fits U) w, and_right (span_fits S) (span_fits U) w)

    ad : Admitted word_shape (reader b k (own_tables parts symbols))
    ad = admitted b k parts symbols spans_passed.0

    root : Root b k (own_mode parts symbols)
    root = root_of_lem b k (own_mode parts symbols) ad

    room : 33 ≤ length b
    room = root.stands.room

    twelve : (s : Span) → length (heavy_bytes 0 s) ≡ 12
    unfolding heavy_bytes
    twelve s = refl

    abbrev mid : List ℕ
    mid = put b 0 xs

    fit₁ : 0 + length xs ≤ length b
    fit₁ = let h = room in let x = twelve S in omega arith

    fit₂ : 13 + length ys ≤ length mid
    fit₂ = let h = room in let y = twelve U in let l = put_length b 0 xs fit₁ in omega arith

    size : length new ≡ length b
    size = put_length mid 13 ys fit₂ ∙ put_length b 0 xs fit₁

    behind : (i : ℕ) → 25 ≤ i → byte_at new i ≡ byte_at b i
    behind i l =
        let x = twelve S in
        let y = twelve U in
        put_after mid 13 ys fit₂ i (omega arith) ∙ put_after b 0 xs fit₁ i (omega arith)

    between : byte_at new 12 ≡ byte_at b 12
    between = let x = twelve S in put_before mid 13 ys fit₂ 12 (omega arith) ∙ put_after b 0 xs fit₁ 12 (omega arith)

    opens : Holds new 0 xs
    opens =
        let x = twelve S in
        let n = size in
        let h = room in
        record {
          fits = omega arith;
          same = λ i l. put_before mid 13 ys fit₂ (0 + i) (omega arith) ∙ put_at b 0 xs fit₁ i l;
        }

    closes : Holds new 13 ys
    closes = put_holds mid 13 ys fit₂

    packable : (i : ℕ) (s : WordSpan) → i < 2097152 → span_fits (indexed i s) ≡ true → Packable (indexed i s)
    packable i s l e = record { index = omega arith; range = leb-true (s.start + s.len) 4294967295 e }

    -- the two spans stand in their twelve-byte form
    opened : span_at new 0 ≡ span 0 S 12
    opened =
        let z = sizes b k parts symbols ad in
        let a = z.two in
        let c = z.many in
        heavy_back new 0 0 S (omega arith) (packable (P - 2) opening (omega arith) spans_passed.1) opens

    closed : span_at new 13 ≡ span 0 U 25
    closed =
        let z = sizes b k parts symbols ad in
        let a = z.two in
        let c = z.many in
        heavy_back new 13 0 U (omega arith) (packable (P - 2 + 1) closing (omega arith) spans_passed.2) closes

    abbrev new_root : Raw
    new_root = subtree S U (word_at b 25) (byte_at b 12 / 8)

    reads : tree_at new 0 ≡ got new_root 33 (word_at b 29)
    reads =
        let h = room in
        let l = size in
        let e = between in
        let f = root.stands.form in
        let a : Agree new b 25 33 = record { size = size; same = λ i x y. behind i x } in
        let S' : RootStands new S U = record { room = omega arith; opens = opened; form = rw e f; extra = 0; closes = closed } in
        let x = word_same new b 25 33 a 25 (omega arith) (omega arith) in
        let y = word_same new b 25 33 a 29 (omega arith) (omega arith) in
        let z : byte_at new 12 / 8 ≡ byte_at b 12 / 8 = rw e in
        root_read new S U S' ∙ (λ i. got (subtree S U (x i) (z i)) 33 (y i))

    -- the part table

    last_fit : length parts - 2 * part_size + 2 * part_size ≤ length parts
    last_fit =
        let z = sizes b k parts symbols ad in
        let a = z.two in
        omega arith

    table_size : length table ≡ length parts
    table_size = put_length parts (length parts - 2 * part_size) pair last_fit

    others : (i : ℕ) → i + 2 * part_size < length parts → get_or table i 0 ≡ get_or parts i 0
    others i l = put_before parts (length parts - 2 * part_size) pair last_fit i (omega arith)

    abbrev M : Mode
    M = own_mode parts symbols

    abbrev M' : Mode
    M' = own_mode table symbols

    kept : Kept b new M M'
    kept =
        let z = table_size in
        record {
          size = size;
          bytes = λ i l. behind i (omega arith);
          sized = ap (λ n. eqb (n % part_size) 0 && tables_sized (n / part_size) (length symbols)) z;
          limit = ap (λ n. n / part_size - 2) z;
          root = ap (λ n. n / part_size - 2) z;
          symbols = refl;
          entries = λ i l. entry_same table parts i i (λ j h. others (part_size * i + j) (omega arith));
        }

    part_word : (i j : ℕ) → j < 2 * part_size → i ≡ length parts - 2 * part_size + j → get_or table i 0 ≡ get_or pair j 0
    part_word i j l e = rw e (put_at parts (length parts - 2 * part_size) pair last_fit j l)

    -- the root's entries are the new ones
    entry : (i j : ℕ) → i ≡ P - 2 + j → j < 2 → entry_at M' 0 i ≡ part_at pair j
    entry i j e l =
        let z = sizes b k parts symbols ad in
        let a = z.two in
        let w = z.whole in
        let s : length table / part_size ≡ P = ap (λ n. n / part_size) table_size in
        let d : i - (length table / part_size - 2) ≡ j = omega arith in
        let p = part_drop table (length table / part_size - 2) j in
        let q : length table / part_size - 2 + j ≡ P - 2 + j = omega arith in
        ap (part_at M'.pair) d ∙ p ∙ ap (part_at table) q
        ∙ entry_same table pair (P - 2 + j) j (λ x h. part_word (part_size * (P - 2 + j) + x) (part_size * j + x) (omega arith) (omega arith))

    spans_words : tree_words M' 0 new_root ≡ 3 ∷ word_at b 25 ∷ byte_at b 12 / 8 ∷ span_list opening ++ span_list closing
    unfolding tree_words
    spans_words =
        let o = entry (P - 2) 0 (omega arith) (omega arith) in
        let c = entry (P - 2 + 1) 1 refl (omega arith) in
        λ i. 3 ∷ word_at b 25 ∷ byte_at b 12 / 8
        ∷ span_list (record { part = o i; start = opening.start; len = opening.len }) ++ span_list (record { part = c i; start = closing.start; len = closing.len })

    -- the buffer stays admitted over the new parts; of its list, the spans of tree 0 are the new ones and all else is as it was
    pub spans_rewritten : RootOnly old (own_reader after k parts_now symbols) (with_spans opening closing ((listing word_shape old).tree 0))
    unfolding own_reader tree_words spans_after parts_after
    spans_rewritten =
        let e : with_spans opening closing ((listing word_shape old).tree 0) ≡ tree_words M' 0 new_root =
        ap (with_spans opening closing) root.words ∙ sym spans_words in
        let z = sizes b k parts symbols ad in
        let a = z.two in
        let x = eq-eqb (P - 2) (P - 2) refl in
        let y = eq-eqb (P - 2 + 1) (P - 2 + 1) refl in
        let i = spans_passed.1 in
        let j = spans_passed.2 in
        let l = root.in_kind in
        rw (ok, e) (rewritten b k M ad new M' kept S U (byte_at b 12 / 8) reads (simp (i, j, l)) (simp (x, y)))

    -- … so it passes the check again
    pub spans_passes : buffer_check after k parts_now symbols ≡ passed
    spans_passes = check_complete word_shape (own_reader after k parts_now symbols) spans_rewritten.admitted

    pub spans_stored : (after ≡ new) × (parts_now ≡ table)
    unfolding spans_after parts_after
    spans_stored = (rw ok, rw ok)

    -- the heavy form with no extra bits; the last two indices
    pub spans_stand : (span_at after 0 ≡ span 0 S 12) × (span_at after 13 ≡ span 0 U 25)
    spans_stand = let e = spans_stored.0 in (rw e opened, rw e closed)

    only : OnlySpans b new parts table
    only = record { size = size; control = between; behind = behind; table_size = table_size; others = others }

  -- ---- for every input

  pub spans_refused : (r n : ℕ) → verdict ≡ refused r n → (after ≡ b) × (parts_now ≡ parts)
  unfolding spans_after parts_after
  spans_refused r n e = (rw e, rw e)

  pub spans_bytes : OnlySpans b after parts parts_now
  spans_bytes = go verdict refl
    where
      go : (v : Verdict) → verdict ≡ v → OnlySpans b after parts parts_now
      go (refused r n) e =
          let x = spans_refused r n e in
          rw (x.0, x.1) (record { size = refl; control = refl; behind = λ i h. refl; table_size = refl; others = λ i h. refl })
      go passed e =
          let x = spans_stored e in
          rw (x.0, x.1) (only e)

  -- what each way out says
  pub spans_unchecked : (r n : ℕ) → buffer_check b k parts symbols ≡ refused r n → verdict ≡ refused r n
  unfolding spans_verdict
  spans_unchecked r n e = rw e

  pub spans_high : buffer_check b k parts symbols ≡ passed → (range_fits opening && range_fits closing) ≡ false → verdict ≡ refused 2 0
  unfolding spans_verdict
  spans_high e f = rw (e, f)

  pub spans_fit : buffer_check b k parts symbols ≡ passed → (range_fits opening && range_fits closing) ≡ true → verdict ≡ passed
  unfolding spans_verdict
  spans_fit e f = rw (e, f)
