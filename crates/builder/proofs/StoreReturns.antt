-- One law for each return of the functions of src/store.rt, with premises as the code's tests and calls give them.
use Prim.Native.Nat.{ℕ, ◌+◌, ◌*◌, ◌≤◌, ◌<◌}
use mathlib.Core.Path.{◌≡◌, ◌∙◌}
use mathlib.Core.List.{List, [], ◌∷◌}
use native.Mathlib.Omega.{arith}
use lib.ListN.{length}
use Rattle.format.specs.Word.{put}
use Rattle.format.specs.Width.{close_at, tree_size}
use Rattle.format.specs.Part.{WordSpan, span_list}
use Rattle.format.specs.WordList.{list_count}
use Rattle.format.proofs.Kept.{kept}
use Rattle.builder.specs.State.{closed_at}

-- ---- close_tree

module _ (l : List ℕ) (m n : ℕ) (h : m < list_count l) where
  pub close_one : tree_size * m + 1 + 1 ≤ length l
  close_one = omega arith

  module _ (l₁ : List ℕ) (e : l₁ ≡ put l (tree_size * m + 1) (n ∷ [])) where
    pub close_put : (s : WordSpan) (ws : List ℕ) → ws ≡ span_list s → (l₂ : List ℕ) → l₂ ≡ put l₁ (tree_size * m + close_at) ws → l₂ ≡ closed_at l m n s
    close_put s ws g l₂ f = f ∙ rw (e, g)

pub ruleset close_cases = (close_one, close_put, kept)
