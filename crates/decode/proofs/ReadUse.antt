-- What a caller learns from an answer of the tree reader, without opening a definition.
use Prim.Native.Nat.{ℕ, ◌+◌, ◌≤◌}
use mathlib.Core.Bool.{Bool, true, false}
use mathlib.Core.Path.{◌≡◌, refl, sym, ap, ◌∙◌, subst}
use mathlib.Core.List.{List}
use native.Mathlib.Omega.{arith}
use lib.ListN.{length}
use Rattle.std.specs.Prelude.{Result, Ok, Err}
use Rattle.format.specs.Reader.{Reply, got, bad}
use Rattle.format.specs.Tree.{Raw, tree_at}
use Rattle.format.specs.Fields.{fields}
use Rattle.format.proofs.TreeBounds.{Ended, tree_ended}
use Rattle.tree.specs.Raw.{RawAt, raw_of, raw_answer, in_range}
use Rattle.tree.proofs.RawAgain.{raw_again}

-- ---- answers and replies

pub got_bad : {A : Type 0} (y : RawAt) (k : ℕ) → ◌≡◌ {A = Result RawAt ℕ} (Ok y) (Err k) → A
got_bad y k e = let z : ◌≡◌ {A = ℕ} 0 1 = cc in absurd (omega arith)

got_same : (y z : RawAt) → ◌≡◌ {A = Result RawAt ℕ} (Ok y) (Ok z) → y ≡ z
got_same y z e = cc

bad_same : (j k : ℕ) → ◌≡◌ {A = Result RawAt ℕ} (Err j) (Err k) → j ≡ k
bad_same j k e = cc

of_got : (z : Reply Raw) (y : RawAt) → Ok y ≡ raw_answer z → z ≡ got (raw_of y.tree) y.next y.children.0
unfolding raw_answer
of_got (got t n k) y e =
    let d = got_same _ _ e in
    ap (λ (u : Raw). got u n k) (sym (raw_again t)) ∙ sym (ap (λ (u : RawAt). got (raw_of u.tree) u.next u.children.0) d)
of_got (bad r) y e = got_bad y r e

of_bad : (z : Reply Raw) (k : ℕ) → Err k ≡ raw_answer z → z ≡ bad k
unfolding raw_answer
of_bad (got t n j) k e = got_bad _ k (sym e)
of_bad (bad r) k e = ap bad (sym (bad_same _ _ e))

-- the reply of an answer by its case
module _ (z : Reply Raw) (r : Result RawAt ℕ) (e : r ≡ raw_answer z) where
  pub reply_got : (y : RawAt) → r ≡ Ok y → z ≡ got (raw_of y.tree) y.next y.children.0
  reply_got y k = of_got z y (sym k ∙ e)

  pub reply_bad : (k : ℕ) → r ≡ Err k → z ≡ bad k
  reply_bad k q = of_bad z k (sym q ∙ e)

-- ---- fields in range

tree_or : Raw → Reply Raw → Raw
tree_or d (got t n k) = t
tree_or d (bad r) = d

reply_cross : {A : Type 0} (t : Raw) (n k r : ℕ) → bad r ≡ got t n k → A
reply_cross t n k r e = let z : ◌≡◌ {A = ℕ} 0 1 = cc in absurd (omega arith)

module _ (t : Raw) (n k : ℕ) where
  same_tree : (u : Raw) (m j : ℕ) → got u m j ≡ got t n k → u ≡ t
  unfolding tree_or
  same_tree u m j e = ap (tree_or t) e

  pub range_back : (z : Reply Raw) → in_range z ≡ got t n k → (z ≡ got t n k) × (fields t ≡ true)
  unfolding in_range
  range_back (bad r) e = reply_cross t n k r e
  range_back (got u m j) e = go (fields u) refl
    where
      go : (x : Bool) → fields u ≡ x → (got u m j ≡ got t n k) × (fields t ≡ true)
      go true f =
          let d : got u m j ≡ got t n k = simp f at e in
          (d, subst (λ (v : Raw). fields v ≡ true) (same_tree u m j d) f)
      go false f = let d : bad 2 ≡ got t n k = simp f at e in reply_cross t n k 2 d

-- where the next tree stands
module _ (b : List ℕ) (at : ℕ) (r : Result RawAt ℕ) (e : r ≡ raw_answer (in_range (tree_at b at))) (y : RawAt) (k : r ≡ Ok y) where
  pub raw_read : tree_at b at ≡ got (raw_of y.tree) y.next y.children.0
  raw_read = (range_back (raw_of y.tree) y.next y.children.0 (tree_at b at) (reply_got (in_range (tree_at b at)) r e y k)).0

  pub raw_fits : fields (raw_of y.tree) ≡ true
  raw_fits = (range_back (raw_of y.tree) y.next y.children.0 (tree_at b at) (reply_got (in_range (tree_at b at)) r e y k)).1

  pub raw_after : at + 5 ≤ y.next
  raw_after = (subst (Ended b at) raw_read (tree_ended b at)).0

  pub raw_inside : y.next ≤ length b
  raw_inside = (subst (Ended b at) raw_read (tree_ended b at)).1
