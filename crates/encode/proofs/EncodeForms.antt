-- What the functions of src/encode.rt that choose a form ask for and leave: its limits, its room, and that its bytes are the tree's.
use Prim.Native.Nat.{ℕ, ◌+◌, ◌*◌, ◌/◌, ◌%◌, ◌<◌, ◌≤◌}
use mathlib.Core.Bool.{Bool, true, false, ◌&&◌}
use mathlib.Core.Path.{◌≡◌, refl, sym, ◌∙◌}
use mathlib.Core.List.{List, [], ◌∷◌}
use native.Mathlib.Omega.{arith}
use borrow.Author.Tests.{lt-ltb, le-ltb, leb-true}
use lib.Dec.{ltb, leb, eqb}
use lib.ListN.{length}
use Rattle.format.specs.Word.{word_bytes, put}
use Rattle.format.specs.Span.{Span}
use Rattle.format.specs.Tree.{punct, literal, subtree, is_raw_kind}
use Rattle.format.specs.Write.{join, byte, span_bytes, symbol_bytes, short_base, near, bytes000, bytes001, bytes010, bytes101, literal_bytes, subtree_bytes, tree_bytes}
use Rattle.format.proofs.Each.{and_left, and_right, and₄}
use Rattle.format.proofs.TreeBack.{near_true}
use Rattle.pack.specs.Answer.{span_of}
use Rattle.tree.specs.Raw.{punct_raw, literal_raw, subtree_raw}
use Rattle.encode.specs.Encode.{subtree_form}
use Rattle.encode.specs.Ready.{distance_span, Within}
use Rattle.tree.specs.declared.raw.RawPunct.{RawPunct}
use Rattle.tree.specs.declared.raw.RawLiteral.{RawLiteral}
use Rattle.tree.specs.declared.raw.RawSubtree.{RawSubtree}
use Rattle.encode.specs.declared.size.SubtreeForm.{SubtreeForm}
use Rattle.encode.specs.declared.size.SubtreeForm.TheVariants.{Brackets, Equal, TwoParts, Apart}
use Rattle.encode.proofs.SizeReturns.{form_000, form_001, form_010, form_101, size_ascii, size_other, size_short, size_raw, size_long, size_brackets, size_equal, size_parts, size_apart}

-- ---- puncts

module _ (p : RawPunct) (at n : ℕ) (h : at + length (tree_bytes 1 (punct_raw p) 0) ≤ n) where
  pub ascii_room : p.char < 128 → at + length (span_bytes 0 (span_of p.span)) + 1 ≤ n
  ascii_room g = omega (arith, size_ascii (span_of p.span) (length (span_bytes 0 (span_of p.span))) refl p.char p.spacing 0 g)

  pub other_room : 128 ≤ p.char → at + length (span_bytes 0 (span_of p.span)) + 5 ≤ n
  other_room g = omega (arith, size_other (span_of p.span) (length (span_bytes 0 (span_of p.span))) refl p.char p.spacing 0 g)

module _ (b b₁ : List ℕ) (at : ℕ) (s : Span) (c x : ℕ) where
  pub ascii_bytes : c < 128 → b₁ ≡ put b at (join (span_bytes (1 + 2 * (x / 2)) s ∷ byte (2 * c + x % 2) ∷ [])) → b₁ ≡ put b at (tree_bytes 1 (punct s c x) 0)
  unfolding tree_bytes
  ascii_bytes h e = e ∙ simp (lt-ltb c 128 h)

  pub other_bytes_lem : 128 ≤ c → b₁ ≡ put b at (join (span_bytes 0 s ∷ byte (6 + 8 * x) ∷ word_bytes c ∷ [])) → b₁ ≡ put b at (tree_bytes 1 (punct s c x) 0)
  unfolding tree_bytes
  other_bytes_lem h e = e ∙ simp (le-ltb c 128 h)

-- ---- literals

module _ (p : RawLiteral) (y : Bool) (e : y ≡ (ltb 0 (short_base p.kind p.raw_count) && leb p.suffix_len 15)) where
  pub short_suffix_15 : y ≡ true → p.suffix_len ≤ 15
  short_suffix_15 h = leb-true p.suffix_len 15 (and_right (ltb 0 (short_base p.kind p.raw_count)) (leb p.suffix_len 15) (sym e ∙ h))

  module _ (at n : ℕ) (g : at + length (tree_bytes 1 (literal_raw p) 0) ≤ n) where
    pub short_room : y ≡ true → at + length (span_bytes 0 (span_of p.span)) + 1 + length (symbol_bytes 0 p.symbol) ≤ n
    short_room h = omega (arith, size_short (span_of p.span) (length (span_bytes 0 (span_of p.span))) refl p.symbol (length (symbol_bytes 0 p.symbol)) refl p.kind p.raw_count p.suffix_len 0 y e h)

    module _ (h : y ≡ false) (z : Bool) (f : z ≡ is_raw_kind p.kind) where
      pub raw_room : z ≡ true → at + length (span_bytes 0 (span_of p.span)) + 3 + length (symbol_bytes 0 p.symbol) ≤ n
      raw_room k = omega (arith, size_raw (span_of p.span) (length (span_bytes 0 (span_of p.span))) refl p.symbol (length (symbol_bytes 0 p.symbol)) refl p.kind p.raw_count p.suffix_len 0 y e h z f k)

      pub long_room : z ≡ false → at + length (span_bytes 0 (span_of p.span)) + 2 + length (symbol_bytes 0 p.symbol) ≤ n
      long_room k = omega (arith, size_long (span_of p.span) (length (span_bytes 0 (span_of p.span))) refl p.symbol (length (symbol_bytes 0 p.symbol)) refl p.kind p.raw_count p.suffix_len 0 y e h z f k)

module _ (b b₁ : List ℕ) (at : ℕ) (s : Span) (i k r x : ℕ) (y : Bool) (e : y ≡ (ltb 0 (short_base k r) && leb x 15)) where
  pub short_bytes : y ≡ true → b₁ ≡ put b at (join (span_bytes 0 s ∷ byte (short_base k r + 16 * x) ∷ symbol_bytes 0 i ∷ [])) → b₁ ≡ put b at (tree_bytes 1 (literal s i k r x) 0)
  unfolding tree_bytes literal_bytes
  short_bytes h q = let a : (ltb 0 (short_base k r) && leb x 15) ≡ true = sym e ∙ h in q ∙ simp a

  module _ (h : y ≡ false) (z : Bool) (f : z ≡ is_raw_kind k) where
    pub raw_bytes : z ≡ true → b₁ ≡ put b at (join (span_bytes 0 s ∷ byte (7 + 8 * k) ∷ byte r ∷ byte x ∷ symbol_bytes 0 i ∷ [])) → b₁ ≡ put b at (tree_bytes 1 (literal s i k r x) 0)
    unfolding tree_bytes literal_bytes
    raw_bytes g q =
        let a : (ltb 0 (short_base k r) && leb x 15) ≡ false = sym e ∙ h in
        let c : is_raw_kind k ≡ true = sym f ∙ g in
        q ∙ simp (a, c)

    pub long_bytes : z ≡ false → b₁ ≡ put b at (join (span_bytes 0 s ∷ byte (7 + 8 * k) ∷ byte x ∷ symbol_bytes 0 i ∷ [])) → b₁ ≡ put b at (tree_bytes 1 (literal s i k r x) 0)
    unfolding tree_bytes literal_bytes
    long_bytes g q =
        let a : (ltb 0 (short_base k r) && leb x 15) ≡ false = sym e ∙ h in
        let c : is_raw_kind k ≡ false = sym f ∙ g in
        q ∙ simp (a, c)

-- ---- subtrees: the limits of the form

few_true : (n k x : ℕ) → (leb n 255 && leb k x) ≡ true → (n ≤ 255) × (k ≤ x)
few_true n k x e = (leb-true n 255 (and_left (leb n 255) (leb k x) e), leb-true k x (and_right (leb n 255) (leb k x) e))

module _ (p : RawSubtree) (k : ℕ) where
  within : (far many : ℕ) → near (span_of p.opening) (span_of p.closing) far ≡ true → (leb p.len.0 255 && leb k many) ≡ true → Within p k far many
  within far many e f =
      let a = near_true (span_of p.opening) (span_of p.closing) far e in
      let c = few_true p.len.0 k many f in
      record { order = a.0; distance = a.1; count = c.0; bytes = c.1 }

  module _ (f : SubtreeForm) (e : f ≡ subtree_form (span_of p.opening) (span_of p.closing) p.len.0 k) where
    pub brackets_within : f ≡ Brackets → Within p k 2047 255
    brackets_within h =
        let s : Span = span_of p.opening in
        let t : Span = span_of p.closing in
        let few : Bool = leb p.len.0 255 && leb k 255 in
        let all : Bool = eqb s.index t.index && few && eqb s.len 1 && eqb t.len 1 in
        let g = form_000 s t p.len.0 k f e h in
        let b = and₄ (eqb s.index t.index) few (eqb s.len 1) (eqb t.len 1) (and_left all (near s t 2047) g) in
        within 2047 255 (and_right all (near s t 2047) g) b.1

    pub equal_within : f ≡ Equal → Within p k 7 255
    equal_within h =
        let s : Span = span_of p.opening in
        let t : Span = span_of p.closing in
        let b = and₄ (eqb s.index t.index) (leb p.len.0 255 && leb k 255) (eqb s.len t.len) (near s t 7) (form_001 s t p.len.0 k f e h).1 in
        within 7 255 b.3 b.1

    parts_all : f ≡ TwoParts → Within p k 255 4095 × (p.closing.index ≤ 127)
    parts_all h =
        let s : Span = span_of p.opening in
        let t : Span = span_of p.closing in
        let b = and₄ (leb p.len.0 255 && leb k 4095) (eqb s.len t.len) (near s t 255) (leb t.index 127) (form_010 s t p.len.0 k f e h).2 in
        (within 255 4095 b.2 b.0, leb-true t.index 127 b.3)

    pub parts_within : f ≡ TwoParts → Within p k 255 4095
    parts_within h = (parts_all h).0

    pub parts_close : f ≡ TwoParts → p.closing.index ≤ 127
    parts_close h = (parts_all h).1

module _ (p : RawSubtree) (k : ℕ) (f : SubtreeForm) (e : f ≡ subtree_form (span_of p.opening) (span_of p.closing) p.len.0 k) where
  module _ (at n : ℕ) (g : at + length (tree_bytes 1 (subtree_raw p) k) ≤ n) where
    pub brackets_room : f ≡ Brackets → at + length (span_bytes 0 (distance_span p)) + 3 ≤ n
    brackets_room h =
        let m : ℕ = length (span_bytes 0 (distance_span p)) in
        omega (arith, size_brackets (span_of p.opening) (span_of p.closing) p.len.0 p.kind k f e h m refl)

    pub equal_room : f ≡ Equal → at + length (span_bytes 0 (span_of p.opening)) + 3 ≤ n
    equal_room h = omega (arith, size_equal (span_of p.opening) (length (span_bytes 0 (span_of p.opening))) refl (span_of p.closing) p.len.0 p.kind k f e h)

    pub parts_room : f ≡ TwoParts → at + length (span_bytes 0 (span_of p.opening)) + 5 ≤ n
    parts_room h = omega (arith, size_parts (span_of p.opening) (length (span_bytes 0 (span_of p.opening))) refl (span_of p.closing) p.len.0 p.kind k f e h)

    pub apart_room : f ≡ Apart → at + length (span_bytes 0 (span_of p.opening)) + 1 + length (span_bytes 0 (span_of p.closing)) + 8 ≤ n
    apart_room h =
        omega (arith, size_apart (span_of p.opening) (length (span_bytes 0 (span_of p.opening))) refl (span_of p.closing) p.len.0 p.kind k f e h (length (span_bytes 0 (span_of p.closing))) refl)

module _ (b b₁ : List ℕ) (at : ℕ) (s t : Span) (n d k : ℕ) (f : SubtreeForm) (e : f ≡ subtree_form s t n k) where
  pub brackets_bytes : f ≡ Brackets → b₁ ≡ put b at (bytes000 s t n d k) → b₁ ≡ put b at (tree_bytes 1 (subtree s t n d) k)
  unfolding tree_bytes subtree_bytes
  brackets_bytes h q = q ∙ simp (form_000 s t n k f e h)

  pub equal_bytes : f ≡ Equal → b₁ ≡ put b at (bytes001 s t n d k) → b₁ ≡ put b at (tree_bytes 1 (subtree s t n d) k)
  unfolding tree_bytes subtree_bytes
  equal_bytes h q = let a = form_001 s t n k f e h in q ∙ simp (a.0, a.1)

  pub parts_bytes : f ≡ TwoParts → b₁ ≡ put b at (bytes010 s t n d k) → b₁ ≡ put b at (tree_bytes 1 (subtree s t n d) k)
  unfolding tree_bytes subtree_bytes
  parts_bytes h q = let a = form_010 s t n k f e h in q ∙ simp (a.0, a.1, a.2)

  pub apart_bytes : f ≡ Apart → b₁ ≡ put b at (bytes101 s t n d k) → b₁ ≡ put b at (tree_bytes 1 (subtree s t n d) k)
  unfolding tree_bytes subtree_bytes
  apart_bytes h q = let a = form_101 s t n k f e h in q ∙ simp (a.0, a.1, a.2)

pub ruleset leaf_form_cases = (ascii_room, other_room, ascii_bytes, other_bytes_lem, short_suffix_15, short_room, raw_room, long_room, short_bytes, raw_bytes, long_bytes)

pub ruleset subtree_form_cases = (brackets_room, equal_room, parts_room, apart_room, brackets_bytes, equal_bytes, parts_bytes, apart_bytes, brackets_within, equal_within, parts_within, parts_close)
