-- An admitted buffer's list passes rows 1 to 5 over its own tables.
use Prim.Native.Nat.{ℕ, zero, suc, ◌+◌, ◌*◌, ◌-◌, ◌/◌, ◌%◌, ◌≤◌, ◌<◌}
use mathlib.Core.Bool.{Bool, true, false, ◌&&◌}
use mathlib.Core.Path.{◌≡◌, refl, sym, ap, ◌∙◌, subst}
use mathlib.Core.List.{List, [], ◌∷◌}
use native.Mathlib.Omega.{arith}
use borrow.Author.Tests.{lt-ltb, eq-eqb, leb-true, ltb-true, eqb-true, eqb-false}
use lib.Dec.{leb, eqb, ltb}
use lib.ListN.{length, get_or, take, drop, length-append}
use lib.Seq.{take_at, drop_at}
use Rattle.std.specs.Prelude.{if◌then◌else◌}
use Rattle.format.specs.Verdict.{Verdict, passed, refused, each}
use Rattle.format.specs.Reader.{Shape, Reader}
use Rattle.format.specs.Plain.{Listing, end_of, sub}
use Rattle.format.specs.Nest.{still_open, innermost, nest_from, nest}
use Rattle.format.specs.Check.{check, Admitted, listing, place_of, stored}
use Rattle.format.specs.Span.{Span}
use Rattle.format.specs.Tree.{Raw, punct, ident, literal, subtree, is_raw_kind, tree_at}
use Rattle.format.specs.Fields.{fields, span_fits}
use Rattle.format.specs.Tables.{rules, part_in, symbol_in, indexed_below, indexed_root, Mode, limits, entry_at, tree_words, mode_tables, own_mode, own_tables}
use Rattle.format.specs.Buffer.{word_shape, reader, own_reader, buffer_check}
use Rattle.format.specs.WordList.{word_of, tree_list, words_up_to, raw_from, word_fields, list_count, given, list_sized, row_two, list_rules}
use Rattle.format.specs.Writer.{part_index, symbol_index, present, row_five, list_verdict}
use Rattle.format.specs.Width.{open_at, close_at, tree_size}
use Rattle.format.specs.Part.{part_from, part_at, same_part}
use Rattle.format.specs.Builder.{word_in}
use Rattle.format.specs.Unpack.{list_of}
use Rattle.format.proofs.Each.{and_left, and_right, and₃, true_false, all_each}
use Rattle.format.proofs.NestLaw.{nest_complete}
use Rattle.format.proofs.CheckLaw.{check_sound}
use Rattle.format.proofs.Reading.{Clean, each_clean}
use Rattle.format.proofs.PartLaw.{part_same}
use Rattle.format.proofs.First.{part_first, symbol_first}
use Rattle.format.proofs.Joined.{words_whole}
use Rattle.format.proofs.WriterLaw.{Packs, Listed}
use Rattle.format.proofs.BelowRoot.{eight}

-- ---- rows 3 and 4 turn on which trees are subtrees, and on where those end

module _ {Tree : Type 0} (S : Shape Tree) (L M : Listing Tree) (size : L.k ≡ M.k)
    (subs : (n : ℕ) → n < L.k → sub S L n ≡ sub S M n) (ends : (n : ℕ) → n < L.k → sub S L n ≡ true → end_of S L n ≡ end_of S M n) where
  from_alike : (j n : ℕ) (es : List ℕ) → n + j ≤ L.k → nest_from S L j n es ≡ nest_from S M j n es
  unfolding nest_from
  from_alike zero n es h = refl
  from_alike (suc j) n es h = go (sub S L n) refl (λ x. from_alike j (n + 1) x (omega arith))
    where
      -- tree n, a subtree that ends at e, in a list that ends at k; f is for the rest
      opened : ℕ → ℕ → (List ℕ → Verdict) → Verdict
      opened k e f =
          if ltb (innermost k (still_open n es)) e then refused 3 n else (if leb 256 (length (still_open n es)) then refused 4 n else f (e ∷ still_open n es))

      go : (c : Bool) → sub S L n ≡ c → ((es : List ℕ) → nest_from S L j (n + 1) es ≡ nest_from S M j (n + 1) es) → nest_from S L (suc j) n es ≡ nest_from S M (suc j) n es
      go false s rec = let s' = sym (subs n (omega arith)) ∙ s in simp (s, s') (rec (still_open n es))
      go true s rec =
          let s' = sym (subs n (omega arith)) ∙ s in
          let e = ends n (omega arith) s in
          simp (s, s') (λ i. opened (size i) (e i) (λ x. rec x i))

  pub nest_alike : 1 ≤ L.k → nest S L ≡ nest S M
  nest_alike h = go (sub S L 0) refl
    where
      go : (c : Bool) → sub S L 0 ≡ c → nest S L ≡ nest S M
      go false s = let s' = sym (subs 0 h) ∙ s in simp (s, s')
      go true s =
          let s' = sym (subs 0 h) ∙ s in
          let e = ends 0 h s in
          let r = from_alike L.k 0 [] (omega arith) ∙ ap (λ j. nest_from S M j 0 []) size in
          simp (s, s') (λ i. if eqb (e i) (size i) then r i else refused 3 0)

-- ---- trees of as many words as a tree has, joined

-- tree n has so many words, for each n below k
abbrev pub Whole : (ℕ → List ℕ) → ℕ → Type 0
Whole f k = (n : ℕ) → n < k → length (f n) ≡ tree_size

pub words_length : (f : ℕ → List ℕ) (k : ℕ) → Whole f k → length (words_up_to f k) ≡ tree_size * k
unfolding words_up_to
words_length f zero a = refl
words_length f (suc k) a =
    let r = words_length f k (λ n h. a n (omega arith)) in
    let e = a k (omega arith) in
    length-append (words_up_to f k) (f k) ∙ omega arith

pub words_count : (f : ℕ → List ℕ) (k : ℕ) → Whole f k → list_count (words_up_to f k) ≡ k
words_count f k a = let e = words_length f k a in omega arith

-- the joined words tell each tree
words_apart : (f g : ℕ → List ℕ) (k : ℕ) → Whole f k → Whole g k → words_up_to f k ≡ words_up_to g k → (n : ℕ) → n < k → f n ≡ g n
unfolding words_up_to
words_apart f g zero a b e n h = absurd (omega arith)
words_apart f g (suc k) a b e n h = go (eqb n k) refl (words_apart f g k a' b')
  where
    a' : Whole f k
    a' n h = a n (omega arith)

    b' : Whole g k
    b' n h = b n (omega arith)

    x : length (words_up_to f k) ≡ tree_size * k
    x = words_length f k a'

    y : length (words_up_to g k) ≡ tree_size * k
    y = words_length g k b'

    go : (c : Bool) → eqb n k ≡ c → (words_up_to f k ≡ words_up_to g k → (n : ℕ) → n < k → f n ≡ g n) → f n ≡ g n
    go true q rec =
        let p = eqb-true n k q in
        let d : f k ≡ g k = sym (drop_at (words_up_to f k) (f k) (tree_size * k) x) ∙ ap (drop (tree_size * k)) e ∙ drop_at (words_up_to g k) (g k) (tree_size * k) y in
        rw p d
    go false q rec =
        let p = eqb-false n k q in
        rec (sym (take_at (words_up_to f k) (f k) (tree_size * k) x) ∙ ap (take (tree_size * k)) e ∙ take_at (words_up_to g k) (g k) (tree_size * k) y) n (omega arith)

pub words_tree : (f : ℕ → List ℕ) (k : ℕ) → Whole f k → (n : ℕ) → n < k → tree_list (word_of (words_up_to f k) n) ≡ f n
words_tree f k a =
    let l = words_up_to f k in
    let s = words_length f k a in
    words_apart (given l).tree f k (λ n h. refl) a (ap (words_up_to (given l).tree) (sym (words_count f k a)) ∙ words_whole l (omega arith))

-- ---- rows 2 and 5 of a tree by its words alone

pub list_fields : (l : List ℕ) (n : ℕ) (t : List ℕ) → tree_list (word_of l n) ≡ t → word_fields (word_in t) ≡ true → word_fields (word_of l n) ≡ true
unfolding raw_from
list_fields l n t e h = ap (λ (t : List ℕ). word_fields (word_in t)) e ∙ h

-- a literal's kind, raw count and suffix length, back from their one word
pub literal_back : (s : Span) (i k r x : ℕ) → fields (literal s i k r x) ≡ true
    → ((k + 256 * r + 65536 * x) % 256 ≡ k) × ((k + 256 * r + 65536 * x) / 256 % 256 ≡ r) × ((k + 256 * r + 65536 * x) / 65536 ≡ x)
literal_back s i k r x h =
    let a = and₃ (span_fits s) (leb k 10) (if is_raw_kind k then leb r 255 else eqb r 0) (and_left (span_fits s && leb k 10 && (if is_raw_kind k then leb r 255 else eqb r 0)) (leb x 255) h) in
    let hk = leb-true k 10 a.1 in
    let hr = few (is_raw_kind k) a.2 in
    (omega arith, omega arith, omega arith)
  where
    few : (b : Bool) → (if b then leb r 255 else eqb r 0) ≡ true → r ≤ 255
    few true e = leb-true r 255 e
    few false e = let q = eqb-true r 0 e in omega arith

module _ (M : Mode) where
  words_size : (n : ℕ) (t : Raw) → length (tree_words M n t) ≡ tree_size
  unfolding tree_words
  words_size n (punct s c x) = refl
  words_size n (ident s i r) = refl
  words_size n (literal s i k r x) = refl
  words_size n (subtree s t c d) = refl

  words_fit : (n : ℕ) (t : Raw) → fields t ≡ true → word_fields (word_in (tree_words M n t)) ≡ true
  unfolding tree_words raw_from
  words_fit n (punct s c x) h = simp h
  words_fit n (ident s i r) h = simp h
  words_fit n (literal s i k r x) h = rw ((literal_back s i k r x h).0, (literal_back s i k r x h).1, (literal_back s i k r x h).2) (simp h)
  words_fit n (subtree s t c d) h = simp h

  -- a tree below the root by its words, with the indices that the writer finds
  abbrev pub found_raw : (ℕ → ℕ) → Raw
  found_raw w = raw_from (part_index M (part_from w open_at)) (part_index M (part_from w close_at)) (symbol_index M (w 1)) w

  -- row 5 of it
  abbrev standing : (ℕ → ℕ) → Bool
  standing w = indexed_below (limits M) (found_raw w)

  -- … and of the root
  abbrev root_standing : (ℕ → ℕ) → Bool
  root_standing w = same_part (part_at M.pair 0) (part_from w open_at) && same_part (part_at M.pair 1) (part_from w close_at)

  -- an entry is found at its index or before
  part_in_lem : (n i : ℕ) → eqb n 0 ≡ false → ltb i M.limit ≡ true → ltb (part_index M (entry_at M n i)) M.limit ≡ true
  part_in_lem n i z h =
      let l = ltb-true i M.limit h in
      let f = part_first M (entry_at M n i) i l (simp z) in
      lt-ltb (part_index M (entry_at M n i)) M.limit (omega arith)

  symbol_in_lem : (i : ℕ) → ltb i (length M.symbols) ≡ true → ltb (symbol_index M (get_or M.symbols i 0)) (length M.symbols) ≡ true
  symbol_in_lem i h =
      let l = ltb-true i (length M.symbols) h in
      let f = symbol_first M (get_or M.symbols i 0) i l refl in
      lt-ltb (symbol_index M (get_or M.symbols i 0)) (length M.symbols) (omega arith)

  words_stand : (n : ℕ) (t : Raw) → eqb n 0 ≡ false → indexed_below (limits M) t ≡ true → standing (word_in (tree_words M n t)) ≡ true
  unfolding tree_words raw_from
  words_stand n (punct s c x) z h = part_in_lem n s.index z h
  words_stand n (ident s i r) z h =
      let p = part_in_lem n s.index z (and_left (part_in (limits M) s) (symbol_in (limits M) i) h) in
      let y = symbol_in_lem i (and_right (part_in (limits M) s) (symbol_in (limits M) i) h) in
      simp (p, y)
  words_stand n (literal s i k r x) z h =
      let p = part_in_lem n s.index z (and_left (part_in (limits M) s) (symbol_in (limits M) i) h) in
      let y = symbol_in_lem i (and_right (part_in (limits M) s) (symbol_in (limits M) i) h) in
      simp (p, y)
  words_stand n (subtree s t c d) z h =
      let p = part_in_lem n s.index z (and_left (part_in (limits M) s) (part_in (limits M) t) h) in
      let q = part_in_lem n t.index z (and_right (part_in (limits M) s) (part_in (limits M) t) h) in
      simp (p, q)

  root_stands : (t : Raw) → indexed_root (limits M) t ≡ true → root_standing (word_in (tree_words M 0 t)) ≡ true
  unfolding tree_words
  root_stands (punct s c x) h = true_false false h refl
  root_stands (ident s i r) h = true_false false h refl
  root_stands (literal s i k r x) h = true_false false h refl
  root_stands (subtree s t c d) h =
      let e = eqb-true s.index M.root (and_left (eqb s.index M.root) (eqb t.index (M.root + 1)) h) in
      let f = eqb-true t.index (M.root + 1) (and_right (eqb s.index M.root) (eqb t.index (M.root + 1)) h) in
      let x : s.index - M.root ≡ 0 = omega arith in
      let y : t.index - M.root ≡ 1 = omega arith in
      let p = part_same (part_at M.pair 0) (entry_at M 0 s.index) (ap (part_at M.pair) (sym x)) in
      let q = part_same (part_at M.pair 1) (entry_at M 0 t.index) (ap (part_at M.pair) (sym y)) in
      simp (p, q)

  -- ---- a buffer over the tables of this mode that the check passes

  module _ (b : List ℕ) (k : ℕ) (ok : check word_shape (reader b k (mode_tables M)) ≡ passed) where
    abbrev R : Reader (List ℕ)
    R = reader b k (mode_tables M)

    abbrev L : Listing (List ℕ)
    L = listing word_shape R

    abbrev l : List ℕ
    l = words_up_to L.tree k

    ad : Admitted word_shape R
    ad = check_sound word_shape R ok

    sizes : (leb 1 k ≡ true) × (leb k 1048576 ≡ true) × (M.sized ≡ true)
    sizes = and₃ (leb 1 k) (leb k 1048576) M.sized ad.sized

    -- tree n is read, and rows 2 and 8 are silent on it
    abbrev Read : ℕ → Type 0
    Read n =
        Clean (tree_words M) (rules (mode_tables M)) n (place_of word_shape R n) (tree_at b (place_of word_shape R n)) (L.tree n) (place_of word_shape R (n + 1)) (stored word_shape R n)

    clean : (n : ℕ) → n < k → Read n
    clean = each_clean word_shape (tree_words M) b k (rules (mode_tables M)) ad

    pub mode_whole : Whole L.tree k
    mode_whole n h = let C = clean n h in ap length C.shown ∙ words_size n C.raw

    pub mode_length : length l ≡ tree_size * k
    mode_length = words_length L.tree k mode_whole

    pub mode_count : list_count l ≡ k
    mode_count = words_count L.tree k mode_whole

    pub mode_tree : (n : ℕ) → n < k → tree_list (word_of l n) ≡ L.tree n
    mode_tree = words_tree L.tree k mode_whole

    pub mode_sized : list_sized l ≡ true
    mode_sized =
        let s = mode_length in
        let a = eq-eqb (length l % tree_size) 0 (omega arith) in
        let x = ap (leb 1) mode_count ∙ sizes.0 in
        let y = ap (λ m. leb m 1048576) mode_count ∙ sizes.1 in
        simp (a, x, y)

    pub mode_tables_lem : M.sized ≡ true
    mode_tables_lem = sizes.2

    pub mode_fields : (n : ℕ) → n < k → word_fields (word_of l n) ≡ true
    mode_fields n h =
        let C = clean n h in
        list_fields l n (tree_words M n C.raw) (mode_tree n h ∙ C.shown) (words_fit n C.raw C.row2)

    pub mode_nest : nest word_shape L ≡ passed
    mode_nest = nest_complete word_shape L ad.rooted ad.holds_all ad.nested

    mode_present : (n : ℕ) → n < k → present M l n ≡ true
    unfolding raw_from
    mode_present n h = go (eqb n 0) refl
      where
        C : Read n
        C = clean n h

        e : tree_list (word_of l n) ≡ tree_words M n C.raw
        e = mode_tree n h ∙ C.shown

        go : (z : Bool) → eqb n 0 ≡ z → present M l n ≡ true
        go true z =
            let q = eqb-true n 0 z in
            let r8 = C.row8 in
            let i = eight (indexed_root (limits M) C.raw) (simp z at r8) in
            simp z (ap (λ (t : List ℕ). root_standing (word_in t)) e ∙ subst (λ m. root_standing (word_in (tree_words M m C.raw)) ≡ true) (sym q) (root_stands C.raw i))
        go false z =
            let r8 = C.row8 in
            let i = eight (indexed_below (limits M) C.raw) (simp z at r8) in
            simp z (ap (λ (t : List ℕ). standing (word_in t)) e ∙ words_stand n C.raw z i)

    pub mode_five : each (row_five M l) (list_count l) ≡ passed
    mode_five =
        let c = mode_count in
        all_each (row_five M l) (list_count l) 0 (λ n a d. let p = mode_present n (omega arith) in simp p)

    pub mode_two : each (row_two l) (list_count l) ≡ passed
    mode_two =
        let c = mode_count in
        all_each (row_two l) (list_count l) 0 (λ n a d. let f = mode_fields n (omega arith) in simp f)

    -- rows 3 and 4 of its list are those of what is read
    pub mode_given : nest word_shape (given l) ≡ passed
    mode_given =
        sym (nest_alike word_shape L (given l) (sym mode_count) (λ n h. ap word_shape.is_sub (sym (mode_tree n h))) (λ n h s. ap (λ t. n + 1 + word_shape.count t) (sym (mode_tree n h)))
        (leb-true 1 k sizes.0))
        ∙ mode_nest

    pub mode_rules : list_rules l ≡ passed
    unfolding list_rules
    mode_rules = simp (mode_two, mode_given)

    pub mode_listed : Packs M → Listed M l
    mode_listed p =
        let c = mode_count in
        let x = leb-true 1 k sizes.0 in
        let y = leb-true k 1048576 sizes.1 in
        record { some = omega arith; many = omega arith; tables = mode_tables_lem; packs = p; fields = mode_two; nested = mode_given; present = mode_five }

-- ---- document 01's mode

module _ (b : List ℕ) (k : ℕ) (parts symbols : List ℕ) (ok : buffer_check b k parts symbols ≡ passed) where
  pub list_length : length (list_of b k parts symbols) ≡ tree_size * k
  unfolding list_of own_reader
  list_length = mode_length (own_mode parts symbols) b k ok

  pub list_count_lem : list_count (list_of b k parts symbols) ≡ k
  unfolding list_of own_reader
  list_count_lem = mode_count (own_mode parts symbols) b k ok

  pub list_tree : (n : ℕ) → n < k → tree_list (word_of (list_of b k parts symbols) n) ≡ (listing word_shape (own_reader b k parts symbols)).tree n
  unfolding list_of own_reader
  list_tree = mode_tree (own_mode parts symbols) b k ok

  pub admitted_lawful : list_verdict parts symbols (list_of b k parts symbols) ≡ passed
  unfolding list_of own_reader list_verdict
  admitted_lawful =
      let M = own_mode parts symbols in
      let s = mode_sized M b k ok in
      let t = mode_tables_lem M b k ok in
      let v : (list_sized (list_of b k parts symbols) && (own_tables parts symbols).sized) ≡ true = rw (s, t) in
      simp (v, mode_rules M b k ok, mode_five M b k ok)
