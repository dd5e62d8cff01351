-- A part of a run that was lent and is back.
use Prim.Native.Nat.{ℕ, ◌+◌, ◌-◌, ◌≤◌}
use mathlib.Core.Path.{◌≡◌, sym, ap, ◌∙◌}
use mathlib.Core.List.{List, [], ◌++◌, append_assoc, append-nil}
use native.Mathlib.Omega.{arith}
use native.Mathlib.Nat.{zero-add}
use lib.ListN.{length, take, drop, length-drop, drop_of_length-le}
use lib.Seq.{drop-drop}
use Rattle.format.specs.Word.{put}

module _ (b : List ℕ) (at : ℕ) (vs : List ℕ) (h : at ≤ length b) where
  -- the part from `at` on was lent, and vs put into it
  pub part_back : (w : List ℕ) → w ≡ put (drop at b) 0 vs → take at b ++ (w ++ drop (length b - at) (drop at b)) ≡ put b at vs
  unfolding put
  part_back w e =
      let z : drop (length b - at) (drop at b) ≡ [] = drop_of_length-le (drop at b) {i = length b - at} (omega (arith, length-drop at b)) in
      ap (λ (x : List ℕ). take at b ++ (w ++ x)) z
      ∙ ap (λ (x : List ℕ). take at b ++ x) (append-nil w ∙ e ∙ ap (λ (x : ℕ). vs ++ drop x (drop at b)) (zero-add (length vs)) ∙ ap (λ (x : List ℕ). vs ++ x) (drop-drop (length vs) at b))
      ∙ sym (append_assoc (take at b) vs (drop (at + length vs) b))
