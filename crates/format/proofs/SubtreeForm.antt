-- Of a subtree's four forms one is written, and it is one that fits. Which of those that fit is not said here: in what order they are tried shows in the bytes spent (TreeSmallest).
use Prim.Native.Nat.{ℕ}
use mathlib.Core.Bool.{Bool, true, false}
use mathlib.Core.Path.{◌≡◌, refl}
use mathlib.Core.List.{List}
use Rattle.format.specs.Span.{Span}
use Rattle.format.specs.Write.{fits000, fits001, fits010, bytes000, bytes001, bytes010, bytes101, subtree_bytes}

module _ (P : List ℕ → Type 0) (s t : Span) (n d kids : ℕ) where
  pub subtree_form_lem : (fits000 s t n kids ≡ true → P (bytes000 s t n d kids)) → (fits001 s t n kids ≡ true → P (bytes001 s t n d kids))
      → (fits010 s t n kids ≡ true → P (bytes010 s t n d kids)) → P (bytes101 s t n d kids) → P (subtree_bytes s t n d kids)
  unfolding subtree_bytes
  subtree_form_lem by000 by001 by010 by101 = go _ _ _ refl refl refl
    where
      go : (x y z : Bool) → fits000 s t n kids ≡ x → fits001 s t n kids ≡ y → fits010 s t n kids ≡ z → P (subtree_bytes s t n d kids)
      go true y z e f g = simp e (by000 e)
      go false true true e f g = let p = by001 f in let q = by010 g in simp (e, f, g) search
      go false true false e f g = simp (e, f, g) (by001 f)
      go false false true e f g = simp (e, f, g) (by010 g)
      go false false false e f g = simp (e, f, g) by101
