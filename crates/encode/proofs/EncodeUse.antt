-- What a caller learns from the contracts of `encode` and `encode_top_subtree`, without opening a definition.
use Prim.Native.Nat.{ℕ, ◌+◌, ◌≤◌, ◌<◌}
use mathlib.Core.Bool.{true}
use mathlib.Core.Path.{◌≡◌, refl, sym, ◌∙◌}
use mathlib.Core.List.{List}
use borrow.Author.Tests.{le-leb, lt-ltb, ne_eqb}
use lib.ListN.{length}
use Rattle.std.specs.Prelude.{Result, Ok, Err}
use Rattle.format.specs.Verdict.{passed}
use Rattle.format.specs.Word.{put}
use Rattle.format.specs.Span.{Span}
use Rattle.format.specs.Tree.{Raw, punct, ident, literal, subtree}
use Rattle.format.specs.Fields.{fields}
use Rattle.format.specs.Write.{tree_bytes}
use Rattle.pack.specs.Answer.{packed_answer}
use Rattle.pack.proofs.Use.{written_same, unchanged}
use Rattle.encode.specs.Encode.{indices, pack_tree, TreePacked}

-- every tree number but 0 gives the bytes that 1 gives
pub below_root_lem : (m : ℕ) (t : Raw) (kids : ℕ) → (m ≡ 0 → ⊥) → tree_bytes m t kids ≡ tree_bytes 1 t kids
unfolding tree_bytes
below_root_lem m (punct s c x) kids h = refl
below_root_lem m (ident s i r) kids h = refl
below_root_lem m (literal s i k r x) kids h = refl
below_root_lem m (subtree s t n d) kids h = simp (ne_eqb m 0 h)

-- indices within the bounds
module _ (s : Span) (h : s.index < 268435456) where
  pub punct_indices : (c x : ℕ) → indices (punct s c x) ≡ true
  punct_indices c x = lt-ltb _ _ h

  pub ident_indices : (i r : ℕ) → i < 536870912 → indices (ident s i r) ≡ true
  ident_indices i r g = simp (lt-ltb _ _ h, lt-ltb _ _ g)

  pub literal_indices : (i k r x : ℕ) → i < 536870912 → indices (literal s i k r x) ≡ true
  literal_indices i k r x g = simp (lt-ltb _ _ h, lt-ltb _ _ g)

  pub subtree_indices : (t : Span) (n d : ℕ) → t.index < 268435456 → indices (subtree s t n d) ≡ true
  subtree_indices t n d g = simp (lt-ltb _ _ h, lt-ltb _ _ g)

module _ (b : List ℕ) (at m : ℕ) (t : Raw) (kids : ℕ) (r : Result ℕ ℕ) (b' : List ℕ) (p : TreePacked b at m t kids r b') where
  -- a refusal changes nothing
  pub tree_unchanged : (k : ℕ) → r ≡ Err k → b' ≡ b
  tree_unchanged k e = p.contents ∙ unchanged (pack_tree b at m t kids) (length (tree_bytes m t kids)) k b (put b at (tree_bytes m t kids)) (sym e ∙ p.answer)

  -- within the bounds and with room
  module _ (h₁ : fields t ≡ true) (h₂ : indices t ≡ true) (h₃ : at + length (tree_bytes m t kids) ≤ length b) where
    passes : pack_tree b at m t kids ≡ passed
    unfolding pack_tree
    passes = simp (h₁, h₂, le-leb _ _ h₃)

    pub encoded_written : r ≡ Ok (length (tree_bytes m t kids))
    unfolding packed_answer
    encoded_written = p.answer ∙ rw passes

    pub encoded_count : (n : ℕ) → r ≡ Ok n → n ≡ length (tree_bytes m t kids)
    encoded_count n e = written_same n (length (tree_bytes m t kids)) (sym e ∙ encoded_written)

    pub encoded_contents : b' ≡ put b at (tree_bytes m t kids)
    encoded_contents = p.contents ∙ rw passes

pub ruleset encoded_cases = (encoded_written, encoded_count, encoded_contents)
