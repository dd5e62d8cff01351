-- What a caller learns from a tree that was read and judged.
use Prim.Native.Nat.{ℕ, ◌+◌, ◌≤◌}
use mathlib.Core.Bool.{Bool, true, false}
use mathlib.Core.Path.{◌≡◌, refl, sym, ap, ◌∙◌, subst}
use mathlib.Core.List.{List}
use native.Mathlib.Omega.{arith}
use borrow.Author.Tests.{eqb-true}
use lib.Dec.{eqb}
use lib.ListN.{length}
use Rattle.std.specs.Prelude.{Result, Ok, Err}
use Rattle.format.specs.Reader.{Reply, got, bad}
use Rattle.format.specs.Tree.{Raw, tree_at}
use Rattle.format.specs.Fields.{fields}
use Rattle.format.specs.Tables.{TableRules}
use Rattle.format.specs.Buffer.{formed, judge}
use Rattle.format.specs.Loose as format
use Rattle.format.specs.Loose.{beside}
use Rattle.format.proofs.Shown.{shown_reply}
use Rattle.format.proofs.TreeBounds.{Ended, tree_ended}
use Rattle.tree.specs.Raw.{RawAt, raw_of, raw_answer}
use Rattle.tree.specs.Loose.{loose_of}
use Rattle.tree.specs.declared.raw.RawTree.{RawTree}
use Rattle.decode.specs.Judge.{judged_of}
use Rattle.decode.specs.declared.loose.Reported.{Reported}
use Rattle.decode.proofs.ReadUse.{reply_got}

-- a tree that no row refuses
pub record Passed (T : TableRules) (n p : ℕ) (t : Raw) (next : ℕ) : Type 0 where
  pub form : formed n p next ≡ true
  pub fits : fields t ≡ true
  pub row : T.judged n t ≡ 0

module _ (T : TableRules) (n p : ℕ) where
  cross : {A : Type 0} (t : Raw) (m k r : ℕ) → bad r ≡ got t m k → A
  cross t m k r e = let z : ◌≡◌ {A = ℕ} 0 1 = cc in absurd (omega arith)

  abbrev holds : Raw → ℕ → Reply Raw → Type 0
  holds t m (got u l j) = Passed T n p u l
  holds t m (bad r) = Unit {0}

  module _ (t : Raw) (m k : ℕ) where
    -- the tree itself was read, and it passes
    pub judged_back : (z : Reply Raw) → judge (λ n t. t) T n p z ≡ got t m k → (z ≡ got t m k) × Passed T n p t m
    unfolding judge
    judged_back (bad r) e = cross t m k r e
    judged_back (got u l j) e = go (formed n p l) (fields u) (eqb (T.judged n u) 0) refl refl refl
      where
        go : (x y w : Bool) → formed n p l ≡ x → fields u ≡ y → eqb (T.judged n u) 0 ≡ w → (got u l j ≡ got t m k) × Passed T n p t m
        go false y w f g h = let d : bad 2 ≡ got t m k = simp f at e in cross t m k 2 d
        go true false w f g h = let d : bad 2 ≡ got t m k = simp (f, g) at e in cross t m k 2 d
        go true true false f g h = let d : bad (T.judged n u) ≡ got t m k = simp (f, g, h) at e in cross t m k (T.judged n u) d
        go true true true f g h =
            let d : got u l j ≡ got t m k = simp (f, g, h) at e in
            (d, subst (holds t m) d (record { form = f; fits = g; row = eqb-true _ _ h }))

module _ (b : List ℕ) (T : TableRules) (n at : ℕ) (r : Result RawAt ℕ) (e : r ≡ raw_answer (judge (λ n t. t) T n at (tree_at b at))) (y : RawAt) (k : r ≡ Ok y) where
  judged_here : (tree_at b at ≡ got (raw_of y.tree) y.next y.children.0) × Passed T n at (raw_of y.tree) y.next
  judged_here = judged_back T n at (raw_of y.tree) y.next y.children.0 (tree_at b at) (reply_got (judge (λ n t. t) T n at (tree_at b at)) r e y k)

  pub judged_read : tree_at b at ≡ got (raw_of y.tree) y.next y.children.0
  judged_read = judged_here.0

  pub judged_passed : Passed T n at (raw_of y.tree) y.next
  judged_passed = judged_here.1

  pub judged_after : at + 5 ≤ y.next
  judged_after = (subst (Ended b at) judged_read (tree_ended b at)).0

  pub judged_inside : y.next ≤ length b
  judged_inside = (subst (Ended b at) judged_read (tree_ended b at)).1

pub ruleset judged_cases = (judged_read, judged_passed, judged_after, judged_inside)

-- ---- with its report

abbrev unreported : Reply (Raw × format.Loose) → Reply Raw
unreported z = shown_reply (λ (t : Raw × format.Loose). t.0) z

unreported_beside : (x : format.Loose) (z : Reply Raw) → unreported (beside x z) ≡ z
unreported_beside x (got t n k) = refl
unreported_beside x (bad r) = refl

report_in : format.Loose → Reply (Raw × format.Loose) → format.Loose
report_in x (got t n k) = t.1
report_in x (bad r) = x

report_beside : (x : format.Loose) (z : Reply Raw) → report_in x (beside x z) ≡ x
unfolding report_in
report_beside x (got t n k) = refl
report_beside x (bad r) = refl

module _ (x : format.Loose) (z : Reply Raw) (r : Result (Reported RawTree) ℕ) (e : judged_of r ≡ beside x z) where
  told_tree : unreported (judged_of r) ≡ z
  told_tree = ap unreported e ∙ unreported_beside x z

  pub told_bad : (k : ℕ) → r ≡ Err k → z ≡ bad k
  unfolding judged_of
  told_bad k q = sym told_tree ∙ ap (λ (u : Result (Reported RawTree) ℕ). unreported (judged_of u)) q

  module _ (y : Reported RawTree) (q : r ≡ Ok y) where
    pub told_got : z ≡ got (raw_of y.tree) y.next y.children.0
    unfolding judged_of
    told_got = sym told_tree ∙ ap (λ (u : Result (Reported RawTree) ℕ). unreported (judged_of u)) q

    pub told_loose : loose_of y.loose ≡ x
    unfolding judged_of report_in
    told_loose = sym (ap (λ (u : Result (Reported RawTree) ℕ). report_in x (judged_of u)) q) ∙ ap (report_in x) e ∙ report_beside x z
