-- One law for each return of the functions of src/size.rt, with premises as the code's tests and calls give them.
use Prim.Native.Nat.{ℕ, ◌+◌, ◌*◌, ◌-◌, ◌/◌, ◌<◌, ◌≤◌}
use mathlib.Core.Bool.{Bool, true, false, not, ◌&&◌}
use mathlib.Core.Path.{◌≡◌, refl, sym, ap, ◌∙◌}
use native.Mathlib.Omega.{arith}
use borrow.Author.Tests.{lt-ltb, le-leb, lt-leb, eq-eqb, ne_eqb, le-ltb, not-true, not-false}
use lib.Dec.{ltb, leb, eqb}
use lib.ListN.{length, length-append}
use Rattle.std.specs.Prelude.{if◌then◌else◌}
use Rattle.format.specs.Span.{Span}
use Rattle.format.specs.Tree.{punct, ident, literal, subtree, is_raw_kind}
use Rattle.format.specs.Write.{span_bytes, symbol_bytes, short_base, near, fits000, fits001, fits010, literal_bytes, subtree_bytes, tree_bytes}
use Rattle.format.proofs.Each.{and_right}
use Rattle.format.proofs.TreeBack.{near_true}
use Rattle.pack.specs.Answer.{span_of}
use Rattle.pack.proofs.Sizes.{span_length, symbol_length, form_most, symbol_most}
use Rattle.tree.specs.Raw.{raw_of, punct_raw, ident_raw, literal_raw, subtree_raw}
use Rattle.encode.specs.Encode.{subtree_form}
use Rattle.tree.specs.declared.raw.RawPunct.{RawPunct}
use Rattle.tree.specs.declared.raw.RawIdent.{RawIdent}
use Rattle.tree.specs.declared.raw.RawLiteral.{RawLiteral}
use Rattle.tree.specs.declared.raw.RawSubtree.{RawSubtree}
use Rattle.tree.specs.declared.raw.RawTree.{RawTree}
use Rattle.tree.specs.declared.raw.RawTree.TheVariants.{Punct, Ident, Literal, Subtree}
use Rattle.encode.specs.declared.size.SubtreeForm.{SubtreeForm}
use Rattle.encode.specs.declared.size.SubtreeForm.TheVariants.{Brackets, Equal, TwoParts, Apart}

-- ---- the form that is chosen

module _ (s t : Span) (n k : ℕ) (x : Bool) (e : x ≡ fits000 s t n k) where
  pub form_brackets : x ≡ true → Brackets ≡ subtree_form s t n k
  unfolding subtree_form
  form_brackets h = let a : fits000 s t n k ≡ true = sym e ∙ h in simp a

  module _ (h : x ≡ false) (y : Bool) (f : y ≡ fits001 s t n k) where
    pub form_equal : y ≡ true → Equal ≡ subtree_form s t n k
    unfolding subtree_form
    form_equal i =
        let a : fits000 s t n k ≡ false = sym e ∙ h in
        let b : fits001 s t n k ≡ true = sym f ∙ i in
        simp (a, b)

    module _ (i : y ≡ false) (z : Bool) (g : z ≡ fits010 s t n k) where
      pub form_parts : z ≡ true → TwoParts ≡ subtree_form s t n k
      unfolding subtree_form
      form_parts j =
          let a : fits000 s t n k ≡ false = sym e ∙ h in
          let b : fits001 s t n k ≡ false = sym f ∙ i in
          let c : fits010 s t n k ≡ true = sym g ∙ j in
          simp (a, b, c)

      pub form_apart : z ≡ false → Apart ≡ subtree_form s t n k
      unfolding subtree_form
      form_apart j =
          let a : fits000 s t n k ≡ false = sym e ∙ h in
          let b : fits001 s t n k ≡ false = sym f ∙ i in
          let c : fits010 s t n k ≡ false = sym g ∙ j in
          simp (a, b, c)

pub ruleset form_cases = (form_brackets, form_equal, form_parts, form_apart)

-- ---- literals

module _ (k r : ℕ) where
  pub base_str : k ≡ 4 → 3 ≡ short_base k r
  base_str h = simp (eq-eqb _ _ h)

  module _ (h : k ≡ 4 → ⊥) where
    pub base_integer : k ≡ 2 → 12 ≡ short_base k r
    base_integer g = simp (ne_eqb _ _ h, eq-eqb _ _ g)

    module _ (g : k ≡ 2 → ⊥) where
      pub base_other : (k ≡ 5 → ⊥) → 0 ≡ short_base k r
      base_other a = simp (ne_eqb _ _ h, ne_eqb _ _ g, ne_eqb _ _ a)

      module _ (a : k ≡ 5) where
        pub base_raw_0 : r ≡ 0 → 4 ≡ short_base k r
        base_raw_0 b = simp (ne_eqb _ _ h, ne_eqb _ _ g, eq-eqb _ _ a, eq-eqb _ _ b)

        module _ (b : r ≡ 0 → ⊥) where
          pub base_raw_1 : r ≡ 1 → 11 ≡ short_base k r
          base_raw_1 c = simp (ne_eqb _ _ h, ne_eqb _ _ g, eq-eqb _ _ a, ne_eqb _ _ b, eq-eqb _ _ c)

          pub base_raw : (r ≡ 1 → ⊥) → 0 ≡ short_base k r
          base_raw c = simp (ne_eqb _ _ h, ne_eqb _ _ g, eq-eqb _ _ a, ne_eqb _ _ b, ne_eqb _ _ c)

  module _ (x m : ℕ) (e : m ≡ short_base k r) where
    pub short_not : m ≡ 0 → false ≡ (ltb 0 (short_base k r) && leb x 15)
    short_not h = let b : ltb 0 (short_base k r) ≡ false = ap (ltb 0) (sym e ∙ h) in simp b

    module _ (h : m ≡ 0 → ⊥) where
      some : ltb 0 (short_base k r) ≡ true
      some = ap (ltb 0) (sym e) ∙ lt-ltb 0 m (omega arith)

      pub short_suffix : 15 < x → false ≡ (ltb 0 (short_base k r) && leb x 15)
      short_suffix g = let b : ltb 0 (short_base k r) ≡ true = some in simp (b, lt-leb _ _ g)

      pub short_fits : x ≤ 15 → true ≡ (ltb 0 (short_base k r) && leb x 15)
      short_fits g = let b : ltb 0 (short_base k r) ≡ true = some in simp (b, le-leb _ _ g)

pub ruleset literal_cases = (base_str, base_integer, base_other, base_raw_0, base_raw_1, base_raw, short_not, short_suffix, short_fits)

-- ---- what the form tells

abbrev tells : SubtreeForm → Bool → Bool → Bool → Type 0
tells Brackets x y z = x ≡ true
tells Equal x y z = (x ≡ false) × (y ≡ true)
tells TwoParts x y z = (x ≡ false) × (y ≡ false) × (z ≡ true)
tells Apart x y z = (x ≡ false) × (y ≡ false) × (z ≡ false)

told : (x y z : Bool) → tells (if x then Brackets else (if y then Equal else (if z then TwoParts else Apart))) x y z
told true y z = refl
told false true z = (refl, refl)
told false false true = (refl, refl, refl)
told false false false = (refl, refl, refl)

pub form_tells : (s t : Span) (n k : ℕ) (f : SubtreeForm) → f ≡ subtree_form s t n k → tells f (fits000 s t n k) (fits001 s t n k) (fits010 s t n k)
unfolding subtree_form
form_tells s t n k f e = rw e (told (fits000 s t n k) (fits001 s t n k) (fits010 s t n k))

module _ (s t : Span) (n k : ℕ) (f : SubtreeForm) (e : f ≡ subtree_form s t n k) where
  pub form_000 : f ≡ Brackets → fits000 s t n k ≡ true
  form_000 h = form_tells s t n k Brackets (sym h ∙ e)

  pub form_001 : f ≡ Equal → (fits000 s t n k ≡ false) × (fits001 s t n k ≡ true)
  form_001 h = form_tells s t n k Equal (sym h ∙ e)

  pub form_010 : f ≡ TwoParts → (fits000 s t n k ≡ false) × (fits001 s t n k ≡ false) × (fits010 s t n k ≡ true)
  form_010 h = form_tells s t n k TwoParts (sym h ∙ e)

  pub form_101 : f ≡ Apart → (fits000 s t n k ≡ false) × (fits001 s t n k ≡ false) × (fits010 s t n k ≡ false)
  form_101 h = form_tells s t n k Apart (sym h ∙ e)

  order_000 : f ≡ Brackets → s.start ≤ t.start
  order_000 h = (near_true s t 2047 (and_right (eqb s.index t.index && (leb n 255 && leb k 255) && eqb s.len 1 && eqb t.len 1) (near s t 2047) (form_000 h))).0

pub brackets_order : (p : RawSubtree) (k : ℕ) (f : SubtreeForm) → f ≡ subtree_form (span_of p.opening) (span_of p.closing) p.len.0 k → f ≡ Brackets → p.opening.start ≤ p.closing.start
brackets_order p k f e h = order_000 (span_of p.opening) (span_of p.closing) p.len.0 k f e h

-- ---- the sizes

pub span_bound : (s : Span) (m : ℕ) → m ≡ length (span_bytes 0 s) → (m ≡ length (span_bytes 0 s)) × (m ≤ 12)
span_bound s m e = (e, omega (arith, form_most false 0 s))

pub symbol_bound : (i m : ℕ) → m ≡ length (symbol_bytes 0 i) → (m ≡ length (symbol_bytes 0 i)) × (m ≤ 4)
symbol_bound i m e = (e, omega (arith, symbol_most 0 i))

module _ (s : Span) (m : ℕ) (e : m ≡ length (span_bytes 0 s)) where
  pub size_ascii : (c x k : ℕ) → c < 128 → m + 1 ≡ length (tree_bytes 1 (punct s c x) k)
  unfolding tree_bytes
  size_ascii c x k h = simp (lt-ltb c 128 h, length-append) (omega (arith, span_length (1 + 2 * (x / 2)) s))

  pub size_other : (c x k : ℕ) → 128 ≤ c → m + 5 ≡ length (tree_bytes 1 (punct s c x) k)
  unfolding tree_bytes
  size_other c x k h = simp (le-ltb c 128 h, length-append) (omega arith)

  module _ (i j : ℕ) (f : j ≡ length (symbol_bytes 0 i)) where
    pub size_ident : (r k : ℕ) → m + j ≡ length (tree_bytes 1 (ident s i r) k)
    unfolding tree_bytes
    size_ident r k = simp length-append (omega (arith, span_length 2 s, symbol_length r i))

    module _ (k r x kids : ℕ) (y : Bool) (g : y ≡ (ltb 0 (short_base k r) && leb x 15)) where
      pub size_short : y ≡ true → m + 1 + j ≡ length (tree_bytes 1 (literal s i k r x) kids)
      unfolding tree_bytes literal_bytes
      size_short h = let a : (ltb 0 (short_base k r) && leb x 15) ≡ true = sym g ∙ h in simp (a, length-append) (omega arith)

      module _ (h : y ≡ false) (z : Bool) (p : z ≡ is_raw_kind k) where
        pub size_raw : z ≡ true → m + 3 + j ≡ length (tree_bytes 1 (literal s i k r x) kids)
        unfolding tree_bytes literal_bytes
        size_raw q =
            let a : (ltb 0 (short_base k r) && leb x 15) ≡ false = sym g ∙ h in
            let b : is_raw_kind k ≡ true = sym p ∙ q in
            simp (a, b, length-append) (omega arith)

        pub size_long : z ≡ false → m + 2 + j ≡ length (tree_bytes 1 (literal s i k r x) kids)
        unfolding tree_bytes literal_bytes
        size_long q =
            let a : (ltb 0 (short_base k r) && leb x 15) ≡ false = sym g ∙ h in
            let b : is_raw_kind k ≡ false = sym p ∙ q in
            simp (a, b, length-append) (omega arith)

  module _ (t : Span) (n d k : ℕ) (f : SubtreeForm) (g : f ≡ subtree_form s t n k) where
    pub size_equal : f ≡ Equal → m + 3 ≡ length (tree_bytes 1 (subtree s t n d) k)
    unfolding tree_bytes subtree_bytes
    size_equal h =
        let a = form_001 s t n k f g h in
        simp (a.0, a.1, length-append) (omega arith)

    pub size_parts : f ≡ TwoParts → m + 5 ≡ length (tree_bytes 1 (subtree s t n d) k)
    unfolding tree_bytes subtree_bytes
    size_parts h =
        let a = form_010 s t n k f g h in
        simp (a.0, a.1, a.2, length-append) (omega arith)

    pub size_apart : f ≡ Apart → (j : ℕ) → j ≡ length (span_bytes 0 t) → m + 1 + j + 8 ≡ length (tree_bytes 1 (subtree s t n d) k)
    unfolding tree_bytes subtree_bytes
    size_apart h j e₂ =
        let a = form_101 s t n k f g h in
        simp (a.0, a.1, a.2, length-append) (omega arith)

pub size_brackets : (s t : Span) (n d k : ℕ) (f : SubtreeForm) → f ≡ subtree_form s t n k → f ≡ Brackets → (m : ℕ) → m ≡ length (span_bytes 0 (record { index = s.index; start = s.start; len = t.start - s.start }))
    → m + 3 ≡ length (tree_bytes 1 (subtree s t n d) k)
unfolding tree_bytes subtree_bytes
size_brackets s t n d k f g h m e =
    let a = form_000 s t n k f g h in
    simp (a, length-append) (omega arith)

module _ (tree : RawTree) (kids r : ℕ) where
  pub size_of_punct : (p : RawPunct) → tree ≡ Punct p → r ≡ length (tree_bytes 1 (punct_raw p) 0) → r ≡ length (tree_bytes 1 (raw_of tree) kids)
  unfolding tree_bytes raw_of
  size_of_punct p e f = f ∙ rw e

  pub size_of_ident : (p : RawIdent) → tree ≡ Ident p → r ≡ length (tree_bytes 1 (ident_raw p) 0) → r ≡ length (tree_bytes 1 (raw_of tree) kids)
  unfolding tree_bytes raw_of
  size_of_ident p e f = f ∙ rw e

  pub size_of_literal : (p : RawLiteral) → tree ≡ Literal p → r ≡ length (tree_bytes 1 (literal_raw p) 0) → r ≡ length (tree_bytes 1 (raw_of tree) kids)
  unfolding tree_bytes raw_of
  size_of_literal p e f = f ∙ rw e

  pub size_of_subtree : (p : RawSubtree) → tree ≡ Subtree p → r ≡ length (tree_bytes 1 (subtree_raw p) kids) → r ≡ length (tree_bytes 1 (raw_of tree) kids)
  unfolding raw_of
  size_of_subtree p e f = f ∙ rw e

pub ruleset tree_size_cases = (brackets_order, span_bound, symbol_bound, size_ascii, size_other, size_ident, size_short, size_raw, size_long, size_brackets, size_equal, size_parts, size_apart, size_of_punct, size_of_ident, size_of_literal, size_of_subtree)
