-- One law for each return of the functions of src/listed.rt, with premises as the code's tests and calls give them.
use Prim.Native.Nat.{ℕ, zero, suc, ◌+◌, ◌<◌, ◌≤◌}
use mathlib.Core.Bool.{Bool, true, false}
use mathlib.Core.Path.{◌≡◌, refl, sym, ap, ◌∙◌, subst}
use mathlib.Core.List.{List, [], ◌∷◌}
use native.Mathlib.Omega.{arith}
use borrow.Author.Tests.{lt-ltb, le-ltb, ltb-true, ltb-false, eq-eqb, ne_eqb}
use lib.Dec.{ltb}
use lib.ListN.{length}
use Rattle.std.specs.Prelude.{if◌then◌else◌}
use Rattle.format.specs.Span.{Span}
use Rattle.format.specs.Verdict.{passed}
use Rattle.format.specs.Word.{put}
use Rattle.format.specs.Tree.{Raw, punct}
use Rattle.format.specs.WordList.{word_of, raw_from}
use Rattle.format.specs.Write.{join, span_bytes, symbol_bytes, tree_bytes}
use Rattle.pack.specs.Answer.{span_of}
use Rattle.pack.specs.declared.span.PackedSpan.{PackedSpan}
use Rattle.tree.specs.Raw.{raw_of, punct_raw, ident_raw, literal_raw, subtree_raw}
use Rattle.tree.specs.Listed.{open_span, punct_at, ident_at, literal_at, subtree_at}
use Rattle.tree.specs.declared.raw.RawPunct.{RawPunct}
use Rattle.tree.specs.declared.raw.RawIdent.{RawIdent}
use Rattle.tree.specs.declared.raw.RawLiteral.{RawLiteral}
use Rattle.tree.specs.declared.raw.RawSubtree.{RawSubtree}
use Rattle.tree.specs.declared.raw.RawTree.{RawTree}
use Rattle.tree.specs.declared.raw.RawTree.TheVariants.{Punct, Ident, Literal, Subtree}
use Rattle.tree.proofs.ListedLaws.{punct_sort, ident_sort, literal_sort, subtree_sort}
use Rattle.encode.specs.Encode.{pack_tree}
use Rattle.encode.specs.Listed.{char_size, tail_size}
use Rattle.encode.specs.Ready.{span_size, symbol_size, PunctReady, IdentReady, LiteralReady, SubtreeReady}
use Rattle.encode.proofs.SizeReturns.{size_ascii, size_other, size_ident}
use Rattle.encode.proofs.EncodeTree.{punct_ready, punct_room, punct_put, ident_ready, ident_room, ident_put, literal_ready, literal_room, literal_put, subtree_ready, subtree_room, subtree_put}

past_2 : (x : ℕ) → 2 ≤ x → (x ≡ 2 → ⊥) → 2 < x
past_2 zero g h = absurd (omega arith)
past_2 (suc zero) g h = absurd (omega arith)
past_2 (suc (suc zero)) g h = absurd (h refl)
past_2 (suc (suc (suc x))) g h = omega arith

past_012 : (x : ℕ) → (x ≡ 0 → ⊥) → (x ≡ 1 → ⊥) → (x ≡ 2 → ⊥) → 2 < x
past_012 zero f g h = absurd (f refl)
past_012 (suc zero) f g h = absurd (g refl)
past_012 (suc (suc zero)) f g h = absurd (h refl)
past_012 (suc (suc (suc x))) f g h = omega arith

-- ---- behind the span

module _ (c : ℕ) where
  pub char_ascii : c < 128 → (1 ≡ char_size c) × (1 ≤ 5)
  unfolding char_size
  char_ascii h = (simp (lt-ltb _ _ h), omega arith)

  pub char_other : 128 ≤ c → (5 ≡ char_size c) × (5 ≤ 5)
  unfolding char_size
  char_other h = (simp (le-ltb _ _ h), omega arith)

module _ (x c y : ℕ) where
  pub tail_char : (r : ℕ) → r ≡ char_size c → r ≤ 5 → x ≡ 0 → (r ≡ tail_size x c y) × (r ≤ 5)
  unfolding tail_size
  tail_char r e g h = (e ∙ simp (eq-eqb _ _ h), g)

  pub tail_symbol : (r : ℕ) → r ≡ length (symbol_bytes 0 y) → r ≤ 4 → (x ≡ 0 → ⊥) → (r ≡ tail_size x c y) × (r ≤ 5)
  unfolding tail_size
  tail_symbol r e g h = (e ∙ simp (ne_eqb _ _ h), omega arith)

pub ruleset tail_cases = (char_ascii, char_other, tail_char, tail_symbol)

-- ---- the size

size_char : (s : Span) (m c x k : ℕ) (b : Bool) → ltb c 128 ≡ b → m ≡ length (span_bytes 0 s) → m + (if b then 1 else 5) ≡ length (tree_bytes 1 (punct s c x) k)
size_char s m c x k true h e = size_ascii s m e c x k (ltb-true c 128 h)
size_char s m c x k false h e = size_other s m e c x k (ltb-false c 128 h)

module _ (l : List ℕ) (n o y : ℕ) where
  abbrev span_of_lem : Span
  span_of_lem = span_of (open_span l n o)

  short : (x : ℕ) → word_of l n 0 ≡ x → x < 2 → (c kids : ℕ) → span_size span_of_lem + tail_size x (word_of l n 1) y ≡ length (tree_bytes 1 (raw_from o c y (word_of l n)) kids)
  unfolding tail_size char_size
  short zero z h c kids =
      size_char span_of_lem (span_size span_of_lem) (word_of l n 1) (word_of l n 2) kids (ltb (word_of l n 1) 128) refl refl
      ∙ ap (λ (t : Raw). length (tree_bytes 1 t kids)) (sym (punct_sort l n o c y z))
  short (suc zero) z h c kids =
      size_ident span_of_lem (span_size span_of_lem) refl y (length (symbol_bytes 0 y)) refl (word_of l n 2) kids
      ∙ ap (λ (t : Raw). length (tree_bytes 1 t kids)) (sym (ident_sort l n o c y z))
  short (suc (suc x)) z h c kids = absurd (omega arith)

  pub short_listed : (s : PackedSpan) → s ≡ open_span l n o → (m : ℕ) → m ≡ span_size (span_of s) → (x t : ℕ) → t ≡ tail_size x (word_of l n 1) y
      → m + t ≡ span_size (span_of (open_span l n o)) + tail_size x (word_of l n 1) y
  short_listed s f m e x t g = rw (e, f, g)

module _ (l : List ℕ) (n o c y kids x : ℕ) (e : x ≡ word_of l n 0) (r : ℕ) where
  pub size_short_listed : x < 2 → r ≡ span_size (span_of (open_span l n o)) + tail_size x (word_of l n 1) y → r ≡ length (tree_bytes 1 (raw_from o c y (word_of l n)) kids)
  size_short_listed h f = f ∙ short l n o y x (sym e) h c kids

  pub size_literal_listed : x ≡ 2 → (p : RawLiteral) → p ≡ literal_at l n o y → r ≡ length (tree_bytes 1 (literal_raw p) 0) → r ≡ length (tree_bytes 1 (raw_from o c y (word_of l n)) kids)
  unfolding tree_bytes
  size_literal_listed h p q f = f ∙ rw (q, literal_sort l n o c y (sym e ∙ h))

  pub size_subtree_listed : 2 ≤ x → (x ≡ 2 → ⊥) → (p : RawSubtree) → p ≡ subtree_at l n o c → r ≡ length (tree_bytes 1 (subtree_raw p) kids)
      → r ≡ length (tree_bytes 1 (raw_from o c y (word_of l n)) kids)
  size_subtree_listed g h p q f =
      let k : 2 < word_of l n 0 = rw e at (past_2 x g h) in
      f ∙ rw (q, subtree_sort l n o c y k)

pub ruleset listed_size_cases = (short_listed, size_short_listed, size_literal_listed, size_subtree_listed)

-- ---- the bytes

module _ (l : List ℕ) (n o c y : ℕ) (b : List ℕ) (at kids : ℕ) (e : pack_tree b at 1 (raw_from o c y (word_of l n)) kids ≡ passed) (x : ℕ) (ex : x ≡ word_of l n 0) where
  over : (t : RawTree) → raw_from o c y (word_of l n) ≡ raw_of t → pack_tree b at 1 (raw_of t) kids ≡ passed
  over t h = subst (λ (u : Raw). pack_tree b at 1 u kids ≡ passed) h e

  back : (t : RawTree) → raw_from o c y (word_of l n) ≡ raw_of t → (b₁ : List ℕ) → b₁ ≡ put b at (tree_bytes 1 (raw_of t) kids) → b₁ ≡ put b at (tree_bytes 1 (raw_from o c y (word_of l n)) kids)
  back t h b₁ q = q ∙ ap (λ (u : Raw). put b at (tree_bytes 1 u kids)) (sym h)

  module _ (h : x ≡ 0) (p : RawPunct) (q : p ≡ punct_at l n o) where
    as_punct : raw_from o c y (word_of l n) ≡ raw_of (Punct p)
    unfolding raw_of
    as_punct = punct_sort l n o c y (sym ex ∙ h) ∙ ap punct_raw (sym q)

    pub listed_punct_ready : PunctReady p
    listed_punct_ready = punct_ready b at kids (Punct p) (over (Punct p) as_punct) p refl

    pub listed_punct_room : at + length (tree_bytes 1 (punct_raw p) 0) ≤ length b
    listed_punct_room = punct_room b at kids (Punct p) (over (Punct p) as_punct) p refl

    pub listed_punct_put : (b₁ : List ℕ) → b₁ ≡ put b at (tree_bytes 1 (punct_raw p) 0) → b₁ ≡ put b at (tree_bytes 1 (raw_from o c y (word_of l n)) kids)
    listed_punct_put b₁ i = back (Punct p) as_punct b₁ (punct_put b at kids (Punct p) (over (Punct p) as_punct) p refl b₁ i)

  module _ (h : x ≡ 1) (p : RawIdent) (q : p ≡ ident_at l n o y) where
    as_ident : raw_from o c y (word_of l n) ≡ raw_of (Ident p)
    unfolding raw_of
    as_ident = ident_sort l n o c y (sym ex ∙ h) ∙ ap ident_raw (sym q)

    pub listed_ident_ready : IdentReady p
    listed_ident_ready = ident_ready b at kids (Ident p) (over (Ident p) as_ident) p refl

    pub listed_ident_room : at + span_size (span_of p.span) + symbol_size p.symbol ≤ length b
    listed_ident_room = ident_room b at kids (Ident p) (over (Ident p) as_ident) p refl

    pub listed_ident_put : (b₁ : List ℕ) → b₁ ≡ put b at (join (span_bytes 2 (span_of p.span) ∷ symbol_bytes p.raw p.symbol ∷ [])) → b₁ ≡ put b at (tree_bytes 1 (raw_from o c y (word_of l n)) kids)
    listed_ident_put b₁ i = back (Ident p) as_ident b₁ (ident_put b at kids (Ident p) (over (Ident p) as_ident) p refl b₁ i)

  module _ (h : x ≡ 2) (p : RawLiteral) (q : p ≡ literal_at l n o y) where
    as_literal : raw_from o c y (word_of l n) ≡ raw_of (Literal p)
    unfolding raw_of
    as_literal = literal_sort l n o c y (sym ex ∙ h) ∙ ap literal_raw (sym q)

    pub listed_literal_ready : LiteralReady p
    listed_literal_ready = literal_ready b at kids (Literal p) (over (Literal p) as_literal) p refl

    pub listed_literal_room : at + length (tree_bytes 1 (literal_raw p) 0) ≤ length b
    listed_literal_room = literal_room b at kids (Literal p) (over (Literal p) as_literal) p refl

    pub listed_literal_put : (b₁ : List ℕ) → b₁ ≡ put b at (tree_bytes 1 (literal_raw p) 0) → b₁ ≡ put b at (tree_bytes 1 (raw_from o c y (word_of l n)) kids)
    listed_literal_put b₁ i = back (Literal p) as_literal b₁ (literal_put b at kids (Literal p) (over (Literal p) as_literal) p refl b₁ i)

  module _ (h₀ : x ≡ 0 → ⊥) (h₁ : x ≡ 1 → ⊥) (h₂ : x ≡ 2 → ⊥) (p : RawSubtree) (q : p ≡ subtree_at l n o c) where
    as_subtree : raw_from o c y (word_of l n) ≡ raw_of (Subtree p)
    unfolding raw_of
    as_subtree = subtree_sort l n o c y (rw ex at (past_012 x h₀ h₁ h₂)) ∙ ap subtree_raw (sym q)

    pub listed_subtree_ready : SubtreeReady p
    listed_subtree_ready = subtree_ready b at kids (Subtree p) (over (Subtree p) as_subtree) p refl

    pub listed_subtree_room : at + length (tree_bytes 1 (subtree_raw p) kids) ≤ length b
    listed_subtree_room = subtree_room b at kids (Subtree p) (over (Subtree p) as_subtree) p refl

    pub listed_subtree_put : (b₁ : List ℕ) → b₁ ≡ put b at (tree_bytes 1 (subtree_raw p) kids) → b₁ ≡ put b at (tree_bytes 1 (raw_from o c y (word_of l n)) kids)
    listed_subtree_put b₁ i = back (Subtree p) as_subtree b₁ (subtree_put b at kids (Subtree p) (over (Subtree p) as_subtree) p refl b₁ i)

pub ruleset listed_put_cases = (listed_punct_ready, listed_punct_room, listed_punct_put, listed_ident_ready, listed_ident_room, listed_ident_put, listed_literal_ready, listed_literal_room, listed_literal_put, listed_subtree_ready, listed_subtree_room, listed_subtree_put)
