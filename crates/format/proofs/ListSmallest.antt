-- A buffer that the check passes has at least as many bytes as the writer spends on its list over the same tables, in every table mode.
use Prim.Native.Nat.{ℕ, zero, suc, ◌+◌, ◌-◌, ◌≤◌, ◌<◌}
use mathlib.Core.Bool.{Bool, true, false}
use mathlib.Core.Path.{◌≡◌, refl, sym, ap, ◌∙◌, subst}
use mathlib.Core.List.{List, []}
use native.Mathlib.Omega.{arith}
use native.Mathlib.Nat.{add-zero, zero-add}
use native.Mathlib.Numerals.{add-one}
use borrow.Author.Tests.{eqb-true, ltb-true}
use lib.Dec.{eqb, ltb}
use lib.ListN.{length, get_or, length-append}
use Rattle.format.specs.Verdict.{passed}
use Rattle.format.specs.Word.{AreBytes}
use Rattle.format.specs.Reader.{Reader}
use Rattle.format.specs.Plain.{Listing, sub}
use Rattle.format.specs.Check.{check, Admitted, listing, place_of, stored}
use Rattle.format.specs.Tree.{Raw, punct, ident, literal, subtree, is_subtree, count_of, tree_at}
use Rattle.format.specs.Fields.{fields}
use Rattle.format.specs.Tables.{rules, part_in, symbol_in, indexed_below, Mode, limits, tree_words, mode_tables}
use Rattle.format.specs.Buffer.{word_shape, reader}
use Rattle.format.specs.Part.{part_at}
use Rattle.format.specs.WordList.{word_of, tree_list, words_up_to, raw_from, list_count}
use Rattle.format.specs.Write.{tree_bytes, suffixes}
use Rattle.format.specs.Writer.{part_index, symbol_index, raw_of, raws, packed_in}
use Rattle.format.specs.Builder.{word_in}
use Rattle.format.proofs.Each.{and_left, and_right}
use Rattle.format.proofs.CheckLaw.{check_sound}
use Rattle.format.proofs.Reading.{Clean, each_clean}
use Rattle.format.proofs.RawReader.{mode_telling}
use Rattle.format.proofs.First.{part_first, symbol_first}
use Rattle.format.proofs.WriteSize.{leaf_count, tree_size_lem, raws_length, raws_at}
use Rattle.format.proofs.WriteLaw.{suffix_at, suffix_end}
use Rattle.format.proofs.BelowRoot.{eight}
use Rattle.format.proofs.ListOf.{literal_back, found_raw, mode_count, mode_tree}
use Rattle.format.proofs.TreeSmallest.{named, Lower, tree_smallest}

difference : (a c x y s : ℕ) → a + x ≤ c + y → a + s ≡ c → x - y ≤ s
difference a c x y s h e = omega arith

-- ---- a tree as it was read, and as the writer names it: by first places

module _ (M : Mode) where
  abbrev first_part : ℕ → ℕ
  first_part i = part_index M (part_at M.parts i)

  abbrev first_symbol : ℕ → ℕ
  first_symbol i = symbol_index M (get_or M.symbols i 0)

  words_named : (n : ℕ) (t : Raw) → eqb n 0 ≡ false → fields t ≡ true → found_raw M (word_in (tree_words M n t)) ≡ named first_part first_symbol t
  unfolding tree_words raw_from
  words_named n (punct s c x) z h = simp z
  words_named n (ident s i r) z h = simp z
  words_named n (literal s i k r x) z h = rw ((literal_back s i k r x h).0, (literal_back s i k r x h).1, (literal_back s i k r x h).2) (simp z)
  words_named n (subtree s t c d) z h = simp z

  part_no_higher : (i : ℕ) → ltb i M.limit ≡ true → first_part i ≤ i
  part_no_higher i h = part_first M (part_at M.parts i) i (ltb-true i M.limit h) refl

  symbol_no_higher : (i : ℕ) → ltb i (length M.symbols) ≡ true → first_symbol i ≤ i
  symbol_no_higher i h = symbol_first M (get_or M.symbols i 0) i (ltb-true i (length M.symbols) h) refl

  first_lower : (t : Raw) → indexed_below (limits M) t ≡ true → Lower first_part first_symbol t
  first_lower (punct s c x) h = part_no_higher s.index h
  first_lower (ident s i r) h =
      (part_no_higher s.index (and_left (part_in (limits M) s) (symbol_in (limits M) i) h), symbol_no_higher i (and_right (part_in (limits M) s) (symbol_in (limits M) i) h))
  first_lower (literal s i k r x) h =
      (part_no_higher s.index (and_left (part_in (limits M) s) (symbol_in (limits M) i) h), symbol_no_higher i (and_right (part_in (limits M) s) (symbol_in (limits M) i) h))
  first_lower (subtree s t n d) h =
      (part_no_higher s.index (and_left (part_in (limits M) s) (part_in (limits M) t) h), part_no_higher t.index (and_right (part_in (limits M) s) (part_in (limits M) t) h))

  count_named : (t : Raw) → count_of (named first_part first_symbol t) ≡ count_of t
  count_named (punct s c x) = refl
  count_named (ident s i r) = refl
  count_named (literal s i k r x) = refl
  count_named (subtree s t n d) = refl

  -- ---- a buffer that the check passes, and its list written again

  module _ (b : List ℕ) (k : ℕ) (bytes : AreBytes b) (ok : check word_shape (reader b k (mode_tables M)) ≡ passed) where
    abbrev R : Reader (List ℕ)
    R = reader b k (mode_tables M)

    abbrev L : Listing (List ℕ)
    L = listing word_shape R

    abbrev place : ℕ → ℕ
    place = place_of word_shape R

    abbrev l : List ℕ
    l = words_up_to L.tree k

    ad : Admitted word_shape R
    ad = check_sound word_shape R ok

    clean : (n : ℕ) → n < k → Clean (tree_words M) (rules (mode_tables M)) n (place n) (tree_at b (place n)) (L.tree n) (place (n + 1)) (stored word_shape R n)
    clean = each_clean word_shape (tree_words M) b k (rules (mode_tables M)) ad

    -- tree n as the writer has it, below the root
    raw_named : (n : ℕ) (h : n < k) → eqb n 0 ≡ false → raw_of M l n ≡ named first_part first_symbol (clean n h).raw
    unfolding raw_from
    raw_named n h z =
        let C = clean n h in
        let e : tree_list (word_of l n) ≡ tree_words M n C.raw = mode_tree M b k ok n h ∙ C.shown in
        simp z (ap (λ (t : List ℕ). found_raw M (word_in t)) e ∙ words_named n C.raw z C.row2)

    abbrev ts : List Raw
    ts = raws M l (list_count l) 0

    abbrev r₀ : Raw
    r₀ = punct (record { index = 0; start = 0; len = 0 }) 0 0

    size : length ts ≡ k
    size = raws_length M l (list_count l) 0 ∙ mode_count M b k ok

    raw_is : (n : ℕ) → n < k → get_or ts n r₀ ≡ raw_of M l n
    raw_is n h = let c = mode_count M b k ok in raws_at M l r₀ (list_count l) 0 n (omega arith) ∙ ap (raw_of M l) (zero-add n)

    -- the bytes that are written for trees n to the end
    abbrev rest : ℕ → ℕ
    rest n = length (get_or (suffixes 0 ts) n [])

    abbrev kids : ℕ → ℕ
    kids n = rest (suc n) - rest (suc n + count_of (raw_of M l n))

    rest_is : (n : ℕ) → n < k → rest n ≡ length (tree_bytes n (raw_of M l n) (kids n)) + rest (suc n)
    rest_is n h =
        let z = size in
        let t : Raw = get_or ts n r₀ in
        let e : rest n ≡ length (tree_bytes (0 + n) t (rest (suc n) - rest (suc n + count_of t))) + rest (suc n) = ap length (suffix_at r₀ ts 0 n (omega arith)) ∙ length-append (tree_bytes (0 + n) t (rest (suc n) - rest (suc n + count_of t))) (get_or (suffixes 0 ts) (suc n) []) in
        rw (zero-add n, raw_is n h) at e

    -- tree n takes no more bytes than it is read from
    abbrev NoMore : ℕ → Type 0
    NoMore n = place n + rest n ≤ place (suc n) + rest (suc n)

    -- … so do j trees from tree n on
    run_no_more : (j n : ℕ) → ((m : ℕ) → n ≤ m → m < n + j → NoMore m) → place n + rest n ≤ place (n + j) + rest (n + j)
    run_no_more zero n f = rw add-zero (omega arith)
    run_no_more (suc j) n f =
        let a = run_no_more j n (λ m h i. f m h (omega arith)) in
        let c = f (n + j) (omega arith) (omega arith) in
        let e : n + suc j ≡ suc (n + j) = omega arith in
        rw e (omega arith)

    -- the root has 33 bytes in both
    root_no_more : 0 < k → NoMore 0
    root_no_more h =
        let C = clean 0 h in
        let p : place 1 ≡ place 0 + 33 = eqb-true (place 1) (place 0 + 33) C.form in
        let m = (tree_size_lem 0 (raw_of M l 0) (kids 0)).most in
        let e = rest_is 0 h in
        omega arith

    -- its children take no more than is stored, which is what they are read from
    kids_no_more : (n : ℕ) → n < k → eqb n 0 ≡ false → ((m : ℕ) → suc n ≤ m → m < k → NoMore m) → kids n ≤ stored word_shape R n
    kids_no_more n h z f = go (is_subtree C.raw) refl
      where
        C : Clean (tree_words M) (rules (mode_tables M)) n (place n) (tree_at b (place n)) (L.tree n) (place (n + 1)) (stored word_shape R n)
        C = clean n h

        c : count_of (raw_of M l n) ≡ count_of C.raw
        c = ap count_of (raw_named n h z) ∙ count_named C.raw

        go : (x : Bool) → is_subtree C.raw ≡ x → kids n ≤ stored word_shape R n
        go true e =
            let s : sub word_shape L n ≡ true = ap word_shape.is_sub C.shown ∙ (mode_telling M).sort n C.raw ∙ e in
            let d : word_shape.count (L.tree n) ≡ count_of C.raw = ap word_shape.count C.shown ∙ (mode_telling M).count n C.raw e in
            let i = ad.nested.in_list n h s in
            let o = ad.honest n h s in
            let r = run_no_more (count_of C.raw) (suc n) (λ m a w. f m a (omega arith)) in
            let y : place (suc n) + stored word_shape R n ≡ place (suc n + count_of C.raw) = rw (add-one n, d) at o in
            rw c (difference (place (suc n)) (place (suc n + count_of C.raw)) _ _ (stored word_shape R n) r y)
        go false e = let v = c ∙ leaf_count C.raw e in rw (v, add-zero) (omega arith)

    tree_no_more : (n : ℕ) → n < k → eqb n 0 ≡ false → ((m : ℕ) → suc n ≤ m → m < k → NoMore m) → NoMore n
    tree_no_more n h z f =
        let C = clean n h in
        let e = raw_named n h z in
        let i = eight (indexed_below (limits M) C.raw) (simp z at C.row8) in
        let m = tree_smallest first_part first_symbol b bytes n z (place n) C.raw (place (n + 1)) (stored word_shape R n) C.stands (first_lower C.raw i) (kids n) (kids_no_more n h z f) in
        let s : rest n ≡ length (tree_bytes n (named first_part first_symbol C.raw) (kids n)) + rest (suc n) =
        rest_is n h ∙ ap (λ (t : Raw). length (tree_bytes n t (kids n)) + rest (suc n)) e in
        let m' : place n + length (tree_bytes n (named first_part first_symbol C.raw) (kids n)) ≤ place (suc n) = rw (add-one n) at m in
        omega arith

    all_no_more : (j n : ℕ) → k ≤ n + j → n < k → NoMore n
    all_no_more zero n a h = absurd (omega arith)
    all_no_more (suc j) n a h = go (eqb n 0) refl (λ m c d. all_no_more j m (omega arith) d)
      where
        go : (x : Bool) → eqb n 0 ≡ x → ((m : ℕ) → suc n ≤ m → m < k → NoMore m) → NoMore n
        go true e rec = let q = eqb-true n 0 e in subst NoMore (sym q) (root_no_more (omega arith))
        go false e rec = tree_no_more n h e rec

    pub mode_shortest : length (packed_in M l) ≤ length b
    mode_shortest =
        let w = ad.whole in
        let e = ap length (suffix_end ts 0) in
        let z = size in
        let r : place 0 + rest 0 ≤ place k + rest k = rw zero-add at (run_no_more k 0 (λ m a h. all_no_more k m (omega arith) (omega arith))) in
        let y : rest k ≡ 0 = rw z at e in
        omega arith
