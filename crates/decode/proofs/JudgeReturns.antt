-- One law for each return of the functions that judge a tree, with premises as the code's tests and calls give them.
use Prim.Native.Nat.{ℕ}
use mathlib.Core.Bool.{Bool, true, false, not}
use mathlib.Core.Path.{◌≡◌, refl, sym, ap, ◌∙◌}
use mathlib.Core.List.{List}
use native.Mathlib.Omega.{arith}
use borrow.Author.Tests.{eq-eqb, ne_eqb, eqb-true}
use lib.Dec.{eqb}
use Rattle.std.specs.Prelude.{Result, Ok, Err, ⊤, if◌then◌else◌}
use Rattle.format.specs.Reader.{Reply, got, bad}
use Rattle.format.specs.Tree.{Raw, tree_at}
use Rattle.format.specs.Fields.{fields}
use Rattle.format.specs.Tables as format
use Rattle.format.specs.Tables.{TableRules, row_eight}
use Rattle.format.specs.Buffer.{formed, unless, judge}
use Rattle.format.specs.Loose as report
use Rattle.format.specs.Loose.{beside}
use Rattle.tree.specs.Raw.{RawAt, raw_of, raw_answer, in_range}
use Rattle.tree.specs.Mode.{limits_of}
use Rattle.tree.specs.Loose.{loose_of}
use Rattle.tree.specs.declared.limits.Limits.{Limits}
use Rattle.tree.specs.declared.loose.Loose.{Loose}
use Rattle.decode.specs.Judge.{row_answer, row_from, row_of, limit_rules, judged_of}
use Rattle.decode.proofs.ReadUse.{reply_bad, reply_got, raw_read, raw_fits}

-- ---- the rows by what a tree's indices are

pub row_formed : (n at next : ℕ) (root below : Bool) → formed n at next ≡ true → row_from n at next root below ≡ (if (if eqb n 0 then root else below) then 0 else 8)
unfolding row_from
row_formed n at next root below d = simp d

-- a row's number by the code's answer
module _ (r : Result ⊤ ℕ) (k : ℕ) (e : r ≡ row_answer k) where
  pub row_passes : (u : ⊤) → r ≡ Ok u → k ≡ 0
  row_passes u q = go (eqb k 0) refl
    where
      go : (b : Bool) → eqb k 0 ≡ b → k ≡ 0
      go true d = eqb-true k 0 d
      go false d = let a : r ≡ Err k = simp d at e in cc

  pub row_refuses : (j : ℕ) → r ≡ Err j → (k ≡ j) × (k ≡ 0 → ⊥)
  row_refuses j q = go (eqb k 0) refl
    where
      go : (b : Bool) → eqb k 0 ≡ b → (k ≡ j) × (k ≡ 0 → ⊥)
      go true d = let a : r ≡ Ok tt = simp d at e in cc
      go false d = let a : r ≡ Err k = simp d at e in (cc, λ h. cc (eq-eqb k 0 h))

-- ---- tree n at a place

abbrev shown : {A : Type 0} → (Raw → A) → Reply Raw → Reply A
shown f (got t m k) = got (f t) m k
shown f (bad i) = bad i

module _ {A : Type 0} (show : ℕ → Raw → A) (T : TableRules) (n at : ℕ) where
  -- fields out of range are 2 whatever the form
  pub bad_judged : (z : Reply Raw) (k : ℕ) → in_range z ≡ bad k → judge show T n at z ≡ bad k
  unfolding judge in_range
  bad_judged (bad r) k e = ap (shown (show n)) e
  bad_judged (got t next kids) k e = go (fields t) (formed n at next) refl refl
    where
      never : {B : Type 0} → got t next kids ≡ bad k → B
      never q = let z : ◌≡◌ {A = ℕ} 0 1 = cc in absurd (omega arith)

      go : (x y : Bool) → fields t ≡ x → formed n at next ≡ y → judge show T n at (got t next kids) ≡ bad k
      go true y f g = let d : got t next kids ≡ bad k = simp f at e in never d
      go false true f g = let d : bad 2 ≡ bad k = simp f at e in simp (f, g) (ap (shown (show n)) d)
      go false false f g = let d : bad 2 ≡ bad k = simp f at e in simp (f, g) (ap (shown (show n)) d)

  -- a tree that was read is judged by its row
  module _ (N : format.Limits) (same : (t : Raw) → T.judged n t ≡ row_eight N n t) (t : Raw) (next kids : ℕ) (f : fields t ≡ true) where
    pub row_judged : judge show T n at (got t next kids) ≡ unless (row_of N n at next t) (got (show n t) next kids)
    unfolding judge row_from
    row_judged = go (formed n at next) refl
      where
        go : (x : Bool) → formed n at next ≡ x → judge show T n at (got t next kids) ≡ unless (row_of N n at next t) (got (show n t) next kids)
        go true d = simp (d, f, same t)
        go false d = simp d

module _ (b : List ℕ) (N : Limits) (n at : ℕ) (r : Result RawAt ℕ) (e : r ≡ raw_answer (in_range (tree_at b at))) where
  pub judged_bad : (k : ℕ) → r ≡ Err k → r ≡ raw_answer (judge (λ n t. t) (limit_rules (limits_of N)) n at (tree_at b at))
  unfolding raw_answer
  judged_bad k q = q ∙ rw (bad_judged (λ n t. t) (limit_rules (limits_of N)) n at (tree_at b at) k (reply_bad (in_range (tree_at b at)) r e k q))

  module _ (y : RawAt) (q : r ≡ Ok y) (row : Result ⊤ ℕ) (j : row ≡ row_answer (row_of (limits_of N) n at y.next (raw_of y.tree))) where
    by_row : judge (λ n t. t) (limit_rules (limits_of N)) n at (tree_at b at) ≡ unless (row_of (limits_of N) n at y.next (raw_of y.tree)) (got (raw_of y.tree) y.next y.children.0)
    by_row =
        rw (raw_read b at r e y q)
        (row_judged (λ n t. t) (limit_rules (limits_of N)) n at (limits_of N) (λ t. refl) (raw_of y.tree) y.next y.children.0 (raw_fits b at r e y q))

    pub judged_row : (k : ℕ) → row ≡ Err k → Err k ≡ raw_answer (judge (λ n t. t) (limit_rules (limits_of N)) n at (tree_at b at))
    unfolding raw_answer
    judged_row k l =
        let d = row_refuses row (row_of (limits_of N) n at y.next (raw_of y.tree)) j k l in
        rw by_row (simp (ne_eqb _ _ d.1) (ap Err (sym d.0)))

    pub judged_got : (u : ⊤) → row ≡ Ok u → Ok y ≡ raw_answer (judge (λ n t. t) (limit_rules (limits_of N)) n at (tree_at b at))
    judged_got u l =
        let d = row_passes row (row_of (limits_of N) n at y.next (raw_of y.tree)) j u l in
        sym q ∙ e ∙ rw (reply_got (in_range (tree_at b at)) r e y q) (rw (by_row, d) refl)

-- how the tables' sizes are judged changes no tree
judged_same : {A : Type 0} (show : ℕ → Raw → A) (T T' : TableRules) (n at : ℕ) → T.judged ≡ T'.judged → (z : Reply Raw) → judge show T n at z ≡ judge show T' n at z
unfolding judge
judged_same show T T' n at e (bad r) = refl
judged_same show T T' n at e (got t next kids) =
    ap (λ (f : ℕ → Raw → ℕ). if not (formed n at next) then bad 2 else (if not (fields t) then bad 2 else unless (f n t) (got (show n t) next kids))) e

-- by the sizes of the tables, with its report
module _ (b : List ℕ) (N : Limits) (p y n at : ℕ) (e : limits_of N ≡ format.own_limits p y) (r : Result RawAt ℕ)
    (q : r ≡ raw_answer (judge (λ n t. t) (limit_rules (limits_of N)) n at (tree_at b at))) (x : report.Loose) where
  abbrev own : Reply Raw
  own = judge (λ n t. t) (format.count_rules p y) n at (tree_at b at)

  judged_own : r ≡ raw_answer own
  judged_own = q ∙ ap raw_answer (judged_same (λ n t. t) (limit_rules (limits_of N)) (format.count_rules p y) n at (ap row_eight e) (tree_at b at))

  pub told_bad : (k : ℕ) → r ≡ Err k → judged_of (Err k) ≡ beside x own
  unfolding judged_of
  told_bad k f = sym (ap (beside x) (reply_bad own r judged_own k f))

  pub told_got : (z : RawAt) → r ≡ Ok z → (l : Loose) → loose_of l ≡ x
      → judged_of (Ok (record { tree = z.tree; next = z.next; children = z.children; loose = l })) ≡ beside x own
  unfolding judged_of
  told_got z f l g = ap (λ (u : report.Loose). got (raw_of z.tree, u) z.next z.children.0) g ∙ sym (ap (beside x) (reply_got own r judged_own z f))

pub ruleset judge_cases = (judged_bad, judged_row, judged_got)

pub ruleset told_cases = (told_bad, told_got)
