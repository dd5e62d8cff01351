-- One law for each return of the functions that put the listing's lines.
use Prim.Native.Nat.{ℕ}
use mathlib.Core.Path.{◌≡◌, sym, subst}
use mathlib.Core.List.{List, [], ◌∷◌, ◌++◌, append_assoc}
use Rattle.format.specs.Lister.{decimal, gap, newline, trees_text, bytes_text, parts_text, symbols_text, loose_text, refused_text, at_text, sort_text, header, refusal_line, line}
use Rattle.text.specs.Typed.{Typed}
use Rattle.text.proofs.Typed.{next_inside, typed_then, typed_as}
use Rattle.tree.specs.Raw.{raw_of}
use Rattle.tree.specs.declared.raw.RawPunct.{RawPunct}
use Rattle.tree.specs.declared.raw.RawIdent.{RawIdent}
use Rattle.tree.specs.declared.raw.RawLiteral.{RawLiteral}
use Rattle.tree.specs.declared.raw.RawSubtree.{RawSubtree}
use Rattle.tree.specs.declared.raw.RawTree.{RawTree}
use Rattle.tree.specs.declared.raw.RawTree.TheVariants.{Punct, Ident, Literal, Subtree}
use Rattle.lister.specs.BySizes.{sort_of, tables_text}

-- ---- put_field, put_count

pub ruleset field_cases = (typed_then, next_inside)

-- ---- put_sort

module _ (b b' : List ℕ) (at r : ℕ) (t : RawTree) where
  abbrev SortTyped : List ℕ → Type 0
  SortTyped s = Typed b at s r b'

  pub sort_punct : (p : RawPunct) → t ≡ Punct p → SortTyped (112 ∷ 117 ∷ 110 ∷ 99 ∷ 116 ∷ 10 ∷ []) → SortTyped (sort_text (sort_of (raw_of t)) ++ newline)
  unfolding raw_of sort_of
  sort_punct p e h = subst (λ (x : RawTree). SortTyped (sort_text (sort_of (raw_of x)) ++ newline)) (sym e) h

  pub sort_ident : (p : RawIdent) → t ≡ Ident p → SortTyped (105 ∷ 100 ∷ 101 ∷ 110 ∷ 116 ∷ 10 ∷ []) → SortTyped (sort_text (sort_of (raw_of t)) ++ newline)
  unfolding raw_of sort_of
  sort_ident p e h = subst (λ (x : RawTree). SortTyped (sort_text (sort_of (raw_of x)) ++ newline)) (sym e) h

  pub sort_literal : (p : RawLiteral) → t ≡ Literal p → SortTyped (108 ∷ 105 ∷ 116 ∷ 101 ∷ 114 ∷ 97 ∷ 108 ∷ 10 ∷ [])
      → SortTyped (sort_text (sort_of (raw_of t)) ++ newline)
  unfolding raw_of sort_of
  sort_literal p e h = subst (λ (x : RawTree). SortTyped (sort_text (sort_of (raw_of x)) ++ newline)) (sym e) h

  pub sort_subtree : (p : RawSubtree) → t ≡ Subtree p → SortTyped (115 ∷ 117 ∷ 98 ∷ 116 ∷ 114 ∷ 101 ∷ 101 ∷ 10 ∷ [])
      → SortTyped (sort_text (sort_of (raw_of t)) ++ newline)
  unfolding raw_of sort_of
  sort_subtree p e h = subst (λ (x : RawTree). SortTyped (sort_text (sort_of (raw_of x)) ++ newline)) (sym e) h

pub ruleset sort_cases = (sort_punct, sort_ident, sort_literal, sort_subtree)

-- ---- put_line, put_header, put_refusal

flat_8 : (a b c d e f g h : List ℕ) → (a ++ b) ++ (c ++ d) ++ (e ++ f) ++ (g ++ h) ≡ a ++ b ++ c ++ d ++ e ++ f ++ g ++ h
flat_8 a b c d e f g h = simp append_assoc

flat_11 : (a b c d e f g h i j k : List ℕ) → (a ++ b) ++ (c ++ d) ++ (e ++ f ++ g ++ h ++ i ++ j ++ k) ≡ a ++ b ++ c ++ d ++ e ++ f ++ g ++ h ++ i ++ j ++ k
flat_11 a b c d e f g h i j k = simp append_assoc

flat_7 : (a b c d e f g : List ℕ) → (a ++ b) ++ (c ++ d) ++ (e ++ f) ++ g ≡ a ++ b ++ c ++ d ++ e ++ f ++ g
flat_7 a b c d e f g = simp append_assoc

flat_5 : (a b c d e : List ℕ) → (a ++ b) ++ (c ++ d) ++ e ≡ a ++ b ++ c ++ d ++ e
flat_5 a b c d e = simp append_assoc

module _ (b b₁ b₂ b₃ b₄ : List ℕ) (at r₁ r₂ r₃ r₄ : ℕ) where
  four : (v₁ v₂ v₃ v₄ : List ℕ) → Typed b at v₁ r₁ b₁ → Typed b₁ r₁ v₂ r₂ b₂ → Typed b₂ r₂ v₃ r₃ b₃ → Typed b₃ r₃ v₄ r₄ b₄ → Typed b at (v₁ ++ v₂ ++ v₃ ++ v₄) r₄ b₄
  four v₁ v₂ v₃ v₄ t₁ t₂ t₃ t₄ =
      let u = typed_then b b₁ at r₁ v₁ t₁ b₂ r₂ v₂ t₂ in
      let w = typed_then b b₂ at r₂ (v₁ ++ v₂) u b₃ r₃ v₃ t₃ in
      typed_then b b₃ at r₃ (v₁ ++ v₂ ++ v₃) w b₄ r₄ v₄ t₄

  pub line_put : (n first depth s : ℕ) → Typed b at (decimal n ++ gap) r₁ b₁ → Typed b₁ r₁ (decimal first ++ gap) r₂ b₂ → Typed b₂ r₂ (decimal depth ++ gap) r₃ b₃
      → Typed b₃ r₃ (sort_text s ++ newline) r₄ b₄ → Typed b at (line n first depth s) r₄ b₄
  line_put n first depth s t₁ t₂ t₃ t₄ =
      typed_as b b₄ at r₄ _ _ (flat_8 (decimal n) gap (decimal first) gap (decimal depth) gap (sort_text s) newline)
      (four (decimal n ++ gap) (decimal first ++ gap) (decimal depth ++ gap) (sort_text s ++ newline) t₁ t₂ t₃ t₄)

  pub tables_put : (p y x : ℕ) → Typed b at (parts_text ++ decimal p) r₁ b₁ → Typed b₁ r₁ (symbols_text ++ decimal y) r₂ b₂ → Typed b₂ r₂ (loose_text ++ decimal x) r₃ b₃
      → Typed b₃ r₃ newline r₄ b₄ → Typed b at (tables_text p y x) r₄ b₄
  tables_put p y x t₁ t₂ t₃ t₄ =
      typed_as b b₄ at r₄ _ _ (flat_7 parts_text (decimal p) symbols_text (decimal y) loose_text (decimal x) newline)
      (four (parts_text ++ decimal p) (symbols_text ++ decimal y) (loose_text ++ decimal x) newline t₁ t₂ t₃ t₄)

module _ (b b₁ b₂ b₃ : List ℕ) (at r₁ r₂ r₃ : ℕ) where
  three : (v₁ v₂ v₃ : List ℕ) → Typed b at v₁ r₁ b₁ → Typed b₁ r₁ v₂ r₂ b₂ → Typed b₂ r₂ v₃ r₃ b₃ → Typed b at (v₁ ++ v₂ ++ v₃) r₃ b₃
  three v₁ v₂ v₃ t₁ t₂ t₃ = typed_then b b₂ at r₂ (v₁ ++ v₂) (typed_then b b₁ at r₁ v₁ t₁ b₂ r₂ v₂ t₂) b₃ r₃ v₃ t₃

  pub header_put : (k n p y x : ℕ) → Typed b at (trees_text ++ decimal k) r₁ b₁ → Typed b₁ r₁ (bytes_text ++ decimal n) r₂ b₂ → Typed b₂ r₂ (tables_text p y x) r₃ b₃
      → Typed b at (header k n p y x) r₃ b₃
  header_put k n p y x t₁ t₂ t₃ =
      typed_as b b₃ at r₃ _ _ (flat_11 trees_text (decimal k) bytes_text (decimal n) parts_text (decimal p) symbols_text (decimal y) loose_text (decimal x) newline)
      (three (trees_text ++ decimal k) (bytes_text ++ decimal n) (tables_text p y x) t₁ t₂ t₃)

  pub refusal_put : (x n : ℕ) → Typed b at (refused_text ++ decimal x) r₁ b₁ → Typed b₁ r₁ (at_text ++ decimal n) r₂ b₂ → Typed b₂ r₂ newline r₃ b₃
      → Typed b at (refusal_line x n) r₃ b₃
  refusal_put x n t₁ t₂ t₃ =
      typed_as b b₃ at r₃ _ _ (flat_5 refused_text (decimal x) at_text (decimal n) newline) (three (refused_text ++ decimal x) (at_text ++ decimal n) newline t₁ t₂ t₃)

pub ruleset line_cases = (line_put, tables_put, header_put, refusal_put, next_inside)
