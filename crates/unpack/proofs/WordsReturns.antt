-- One law for each return and call of the functions of src/words.rt, with premises as the code's tests and calls give them.
use Prim.Native.Nat.{ℕ, ◌+◌, ◌*◌, ◌-◌, ◌≤◌, ◌<◌}
use mathlib.Core.Bool.{Bool, true, false, ◌&&◌}
use mathlib.Core.Path.{◌≡◌, refl, sym, ap, ◌∙◌, subst}
use mathlib.Core.List.{List, ◌∷◌, ◌++◌}
use native.Mathlib.Omega.{arith}
use borrow.Author.Tests.{ltb-true, leb-true, eqb-true, eq-eqb, ne_eqb}
use lib.Dec.{ltb, leb, eqb}
use lib.ListN.{length, get_or}
use Rattle.std.specs.Prelude.{if◌then◌else◌}
use Rattle.format.specs.Tree.{is_raw_kind}
use Rattle.format.specs.Fields.{span_fits, fields}
use Rattle.format.specs.Width.{part_size}
use Rattle.format.specs.Part.{Part, part_at}
use Rattle.format.specs.Tables.{row_eight, indexed_below, indexed_root, Mode, entry_at, tree_words}
use Rattle.format.proofs.Each.{and_left, and_right, and₄, true_false}
use Rattle.format.proofs.BelowRoot.{eight}
use Rattle.pack.specs.Answer.{span_of}
use Rattle.pack.specs.declared.span.PackedSpan.{PackedSpan}
use Rattle.tree.specs.Raw.{raw_of, literal_raw}
use Rattle.tree.specs.Types.{span_with, span_list, zeros}
use Rattle.tree.specs.Mode.{limits_of, Whole}
use Rattle.tree.specs.Tables.{mode_in}
use Rattle.tree.specs.declared.tables.Tables.{Tables}
use Rattle.tree.specs.declared.limits.Limits.{Limits}
use Rattle.tree.specs.declared.raw.RawPunct.{RawPunct}
use Rattle.tree.specs.declared.raw.RawIdent.{RawIdent}
use Rattle.tree.specs.declared.raw.RawLiteral.{RawLiteral}
use Rattle.tree.specs.declared.raw.RawSubtree.{RawSubtree}
use Rattle.tree.specs.declared.raw.RawTree.{RawTree}
use Rattle.tree.specs.declared.raw.RawTree.TheVariants.{Punct, Ident, Literal, Subtree}
use Rattle.tree.specs.declared.types.Span.{Span}
use Rattle.tree.proofs.TypesWords.{count_255}
use Rattle.unpack.specs.Words.{leaf_list, subtree_list}

-- ---- one tree with its parts

pub entry_room : (n a i : ℕ) → a ≡ i → part_size * i + part_size ≤ n → part_size * a + part_size ≤ n
entry_room n a i e h = rw e h

pub leaf_listed : (t : List ℕ) (a i : ℕ) → a ≡ i → (q : PackedSpan) (s z : Span) → s ≡ span_with (part_at t a) (span_of q) → span_list z ≡ zeros
    → (sort first second : ℕ) (r : List ℕ) → r ≡ (sort ∷ first ∷ second ∷ span_list s ++ span_list z) → r ≡ leaf_list (part_at t i) sort first second (span_of q)
leaf_listed t a i d q s z e f sort first second r g = g ∙ rw (e, d, f)

pub subtree_listed : (t : List ℕ) (a c : ℕ) (p : RawSubtree) (s z : Span) → s ≡ span_with (part_at t a) (span_of p.opening) → z ≡ span_with (part_at t c) (span_of p.closing)
    → (r : List ℕ) → r ≡ (3 ∷ p.len.0 ∷ p.kind ∷ span_list s ++ span_list z) → r ≡ subtree_list (part_at t a) (part_at t c) p
subtree_listed t a c p s z e f r g = g ∙ rw (e, f)

pub ruleset one_cases = (entry_room, leaf_listed, subtree_listed)

-- ---- a literal's three numbers do not pass a word

module _ (p : RawLiteral) (f : fields (literal_raw p) ≡ true) where
  abbrev c : Bool
  c = if is_raw_kind p.kind then leb p.raw_count 255 else eqb p.raw_count 0

  four : (span_fits (span_of p.span) ≡ true) × (leb p.kind 10 ≡ true) × (c ≡ true) × (leb p.suffix_len 255 ≡ true)
  four = and₄ (span_fits (span_of p.span)) (leb p.kind 10) c (leb p.suffix_len 255) f

  kind_10 : p.kind ≤ 10
  kind_10 = leb-true p.kind 10 four.1

  raw_255 : p.raw_count ≤ 255
  raw_255 = count_255 p.raw_count (is_raw_kind p.kind) four.2

  suffix_255 : p.suffix_len ≤ 255
  suffix_255 = leb-true p.suffix_len 255 four.3

  pub raw_below : 256 * p.raw_count < 4294967296
  raw_below = omega (arith, raw_255)

  pub kind_below : p.kind + 256 * p.raw_count < 4294967296
  kind_below = omega (arith, raw_255, kind_10)

  pub suffix_below : 65536 * p.suffix_len < 4294967296
  suffix_below = omega (arith, suffix_255)

  pub all_below_lem : p.kind + 256 * p.raw_count + 65536 * p.suffix_len < 4294967296
  all_below_lem = omega (arith, raw_255, kind_10, suffix_255)

pub ruleset literal_cases = (raw_below, kind_below, suffix_below, all_below_lem)

-- ---- a tree whose indices row 8 has passed

module _ (T : Tables) (n : ℕ) (t : RawTree)
    (f : fields (raw_of t) ≡ true) (row : row_eight (limits_of T.limits) n (raw_of t) ≡ 0) where
  abbrev M : Mode
  M = mode_in T

  abbrev N : Limits
  N = T.limits

  abbrev parts : List ℕ
  parts = T.parts.now

  abbrev pair : List ℕ
  pair = T.pair.now

  abbrev symbols : List ℕ
  symbols = T.symbols.now

  abbrev w : Whole N parts pair symbols
  w = T.whole

  placed : (if eqb n 0 then indexed_root (limits_of N) (raw_of t) else indexed_below (limits_of N) (raw_of t)) ≡ true
  placed = eight (if eqb n 0 then indexed_root (limits_of N) (raw_of t) else indexed_below (limits_of N) (raw_of t)) row

  below : (n ≡ 0 → ⊥) → indexed_below (limits_of N) (raw_of t) ≡ true
  below z = simp (ne_eqb n 0 z) at placed

  rooted : n ≡ 0 → indexed_root (limits_of N) (raw_of t) ≡ true
  rooted z = simp (eq-eqb n 0 z) at placed

  room : (i : ℕ) → ltb i N.limit ≡ true → part_size * i + part_size ≤ length parts
  room i e = let h = ltb-true i N.limit e in let k = w.below in omega arith

  inside : (i : ℕ) → ltb i N.symbols ≡ true → i < length symbols
  inside i e = let h = ltb-true i N.symbols e in let k = w.many in omega arith

  -- below the root an index leads into the table of parts
  entry_is : (n ≡ 0 → ⊥) → (i : ℕ) → part_at parts i ≡ entry_at M n i
  entry_is z i = simp (ne_eqb n 0 z)

  module _ (p : RawPunct) (e : t ≡ Punct p) where
    below_punct : (ltb p.span.index N.limit ≡ true) × (n ≡ 0 → ⊥)
    unfolding raw_of
    below_punct =
        let z : n ≡ 0 → ⊥ = λ h. true_false false (subst (λ (u : RawTree). indexed_root (limits_of N) (raw_of u) ≡ true) e (rooted h)) refl in
        (subst (λ (u : RawTree). indexed_below (limits_of N) (raw_of u) ≡ true) e (below z), z)

    pub punct_room : part_size * p.span.index + part_size ≤ length parts
    punct_room = room p.span.index below_punct.0

    pub punct_words : (r : List ℕ) → r ≡ leaf_list (part_at parts p.span.index) 0 p.char p.spacing (span_of p.span) → r ≡ tree_words M n (raw_of t)
    unfolding raw_of tree_words
    punct_words r q =
        q ∙ ap (λ (x : Part). leaf_list x 0 p.char p.spacing (span_of p.span)) (entry_is below_punct.1 p.span.index)
        ∙ ap (λ (u : RawTree). tree_words M n (raw_of u)) (sym e)

  module _ (p : RawIdent) (e : t ≡ Ident p) where
    abbrev both : Bool
    both = ltb p.span.index N.limit && ltb p.symbol N.symbols

    below_ident : (both ≡ true) × (n ≡ 0 → ⊥)
    unfolding raw_of
    below_ident =
        let z : n ≡ 0 → ⊥ = λ h. true_false false (subst (λ (u : RawTree). indexed_root (limits_of N) (raw_of u) ≡ true) e (rooted h)) refl in
        (subst (λ (u : RawTree). indexed_below (limits_of N) (raw_of u) ≡ true) e (below z), z)

    pub ident_room : part_size * p.span.index + part_size ≤ length parts
    ident_room = room p.span.index (and_left (ltb p.span.index N.limit) (ltb p.symbol N.symbols) below_ident.0)

    pub ident_symbol : p.symbol < length symbols
    ident_symbol = inside p.symbol (and_right (ltb p.span.index N.limit) (ltb p.symbol N.symbols) below_ident.0)

    pub ident_words : (y : ℕ) → y ≡ get_or symbols p.symbol 0 → (r : List ℕ) → r ≡ leaf_list (part_at parts p.span.index) 1 y p.raw (span_of p.span)
        → r ≡ tree_words M n (raw_of t)
    unfolding raw_of tree_words
    ident_words y h r q =
        q ∙ ap (λ (x : ℕ). leaf_list (part_at parts p.span.index) 1 x p.raw (span_of p.span)) h
        ∙ ap (λ (x : Part). leaf_list x 1 (get_or symbols p.symbol 0) p.raw (span_of p.span)) (entry_is below_ident.1 p.span.index)
        ∙ ap (λ (u : RawTree). tree_words M n (raw_of u)) (sym e)

  module _ (p : RawLiteral) (e : t ≡ Literal p) where
    below_literal : ((ltb p.span.index N.limit && ltb p.symbol N.symbols) ≡ true) × (n ≡ 0 → ⊥)
    unfolding raw_of
    below_literal =
        let z : n ≡ 0 → ⊥ = λ h. true_false false (subst (λ (u : RawTree). indexed_root (limits_of N) (raw_of u) ≡ true) e (rooted h)) refl in
        (subst (λ (u : RawTree). indexed_below (limits_of N) (raw_of u) ≡ true) e (below z), z)

    pub literal_room : part_size * p.span.index + part_size ≤ length parts
    literal_room = room p.span.index (and_left (ltb p.span.index N.limit) (ltb p.symbol N.symbols) below_literal.0)

    pub literal_symbol : p.symbol < length symbols
    literal_symbol = inside p.symbol (and_right (ltb p.span.index N.limit) (ltb p.symbol N.symbols) below_literal.0)

    pub literal_fits : fields (literal_raw p) ≡ true
    unfolding raw_of
    literal_fits = subst (λ (u : RawTree). fields (raw_of u) ≡ true) e f

    pub literal_words : (y x : ℕ) → y ≡ get_or symbols p.symbol 0 → x ≡ p.kind + 256 * p.raw_count + 65536 * p.suffix_len
        → (r : List ℕ) → r ≡ leaf_list (part_at parts p.span.index) 2 y x (span_of p.span) → r ≡ tree_words M n (raw_of t)
    unfolding raw_of tree_words
    literal_words y x h j r q =
        q ∙ (λ i. leaf_list (entry_is below_literal.1 p.span.index i) 2 (h i) (j i) (span_of p.span))
        ∙ ap (λ (u : RawTree). tree_words M n (raw_of u)) (sym e)

  module _ (p : RawSubtree) (e : t ≡ Subtree p) where
    pub pair_open : part_size * 0 + part_size ≤ length pair
    pair_open = let k = w.two in omega arith

    pub pair_close : part_size * 1 + part_size ≤ length pair
    pair_close = let k = w.two in omega arith

    pub root_words_lem : n ≡ 0 → (r : List ℕ) → r ≡ subtree_list (part_at pair 0) (part_at pair 1) p → r ≡ tree_words M n (raw_of t)
    unfolding raw_of tree_words
    root_words_lem z r q =
        let x = subst (λ (u : RawTree). indexed_root (limits_of N) (raw_of u) ≡ true) e (rooted z) in
        let a = eqb p.opening.index N.root in
        let b = eqb p.closing.index (N.root + 1) in
        let i = eqb-true p.opening.index N.root (and_left a b x) in
        let k = eqb-true p.closing.index (N.root + 1) (and_right a b x) in
        let d₀ : p.opening.index - N.root ≡ 0 = omega arith in
        let d₁ : p.closing.index - N.root ≡ 1 = omega arith in
        let g = eq-eqb n 0 z in
        let o : part_at pair 0 ≡ entry_at M n p.opening.index = simp (g, d₀) in
        let c : part_at pair 1 ≡ entry_at M n p.closing.index = simp (g, d₁) in
        q ∙ (λ u. subtree_list (o u) (c u) p) ∙ ap (λ (u : RawTree). tree_words M n (raw_of u)) (sym e)

    module _ (z : n ≡ 0 → ⊥) where
      two : (ltb p.opening.index N.limit && ltb p.closing.index N.limit) ≡ true
      unfolding raw_of
      two = subst (λ (u : RawTree). indexed_below (limits_of N) (raw_of u) ≡ true) e (below z)

      pub open_room : (a : ℕ) → a ≡ p.opening.index → part_size * a + part_size ≤ length parts
      open_room a d = rw d (room p.opening.index (and_left (ltb p.opening.index N.limit) (ltb p.closing.index N.limit) two))

      pub close_room : (a : ℕ) → a ≡ p.closing.index → part_size * a + part_size ≤ length parts
      close_room a d = rw d (room p.closing.index (and_right (ltb p.opening.index N.limit) (ltb p.closing.index N.limit) two))

      pub subtree_words_lem : (a c : ℕ) → a ≡ p.opening.index → c ≡ p.closing.index → (r : List ℕ) → r ≡ subtree_list (part_at parts a) (part_at parts c) p
          → r ≡ tree_words M n (raw_of t)
      unfolding raw_of tree_words
      subtree_words_lem a c d g r q =
          let o = ap (part_at parts) d ∙ entry_is z p.opening.index in
          let k = ap (part_at parts) g ∙ entry_is z p.closing.index in
          q ∙ (λ u. subtree_list (o u) (k u) p) ∙ ap (λ (u : RawTree). tree_words M n (raw_of u)) (sym e)

pub ruleset raw_cases = (
  punct_room,
  punct_words,
  ident_room,
  ident_symbol,
  ident_words,
  literal_room,
  literal_symbol,
  literal_fits,
  literal_words,
  pair_open,
  pair_close,
  root_words_lem,
  subtree_words_lem,
)

-- one for each of two rooms: both are too much for one search
pub ruleset open_cases = (open_room)

pub ruleset close_cases = (close_room)
