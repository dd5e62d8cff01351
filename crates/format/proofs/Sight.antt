-- All that the check sees of a tree that is read: its sort, where it ends, and a subtree's two counts. Two readers that show the same are checked alike.
use Prim.Native.Nat.{ℕ, zero, suc, ◌+◌}
use mathlib.Core.Bool.{Bool, true, false}
use mathlib.Core.Path.{◌≡◌, refl, sym, ap, ◌∙◌}
use mathlib.Core.List.{List, [], ◌∷◌}
use lib.Dec.{leb, eqb, ltb}
use lib.ListN.{length}
use Rattle.std.specs.Prelude.{if◌then◌else◌}
use Rattle.format.specs.Verdict.{Verdict, passed, refused, ◌and_then◌, rule, each}
use Rattle.format.specs.Reader.{Shape, Reader, Reply, got, bad}
use Rattle.format.specs.Plain.{end_of, sub}
use Rattle.format.specs.Nest.{still_open, innermost, nest_from, nest}
use Rattle.format.specs.Check.{next_of, kids_of, tree_of, place_of, reading, listing, stored, verdict_of, read_rule, honest_rule, check}
use Rattle.format.proofs.Each.{true_false}

pub data Sight : Type 0 where
  -- next place
  leaf : ℕ → Sight
  -- descendant count, children bytes, next place
  subtree : ℕ → ℕ → ℕ → Sight
  -- refusal's number
  unread : ℕ → Sight

unfoldable pub sight : {Tree : Type 0} → Shape Tree → Reply Tree → Sight
sight S (got t next kids) = if S.is_sub t then subtree (S.count t) kids next else leaf next
sight S (bad r) = unread r

-- two readers, of whatever trees, that show the same
pub record Alike {Tree Tree' : Type 0} (S : Shape Tree) (R : Reader Tree) (S' : Shape Tree') (R' : Reader Tree') : Type 0 where
  pub sized : R.sized ≡ R'.sized
  pub trees : R.trees ≡ R'.trees
  pub bytes : R.bytes ≡ R'.bytes
  pub flat : S.is_sub S.blank ≡ false
  pub flat' : S'.is_sub S'.blank ≡ false
  pub read : (n p : ℕ) → sight S (R.read n p) ≡ sight S' (R'.read n p)

-- ---- what a sight shows

abbrev pub next_seen : Sight → ℕ
next_seen (leaf next) = next
next_seen (subtree count kids next) = next
next_seen (unread r) = 0

abbrev pub kids_seen : Sight → ℕ
kids_seen (leaf next) = 0
kids_seen (subtree count kids next) = kids
kids_seen (unread r) = 0

abbrev pub count_seen : Sight → ℕ
count_seen (leaf next) = 0
count_seen (subtree count kids next) = count
count_seen (unread r) = 0

abbrev pub sub_seen : Sight → Bool
sub_seen (leaf next) = false
sub_seen (subtree count kids next) = true
sub_seen (unread r) = false

abbrev pub verdict_seen : ℕ → Sight → Verdict
verdict_seen n (leaf next) = passed
verdict_seen n (subtree count kids next) = passed
verdict_seen n (unread r) = refused r n

module _ {Tree : Type 0} (S : Shape Tree) (R : Reader Tree) (flat : S.is_sub S.blank ≡ false) where
  pub see_next : (q : Reply Tree) → next_of q ≡ next_seen (sight S q)
  unfolding sight
  see_next (bad r) = refl
  see_next (got t next kids) = go (S.is_sub t) refl
    where
      go : (c : Bool) → S.is_sub t ≡ c → next ≡ next_seen (sight S (got t next kids))
      go true e = rw e
      go false e = rw e

  pub see_sub : (q : Reply Tree) → S.is_sub (tree_of S R q) ≡ sub_seen (sight S q)
  unfolding sight
  see_sub (bad r) = flat
  see_sub (got t next kids) = go (S.is_sub t) refl
    where
      go : (c : Bool) → S.is_sub t ≡ c → S.is_sub t ≡ sub_seen (sight S (got t next kids))
      go true e = rw e
      go false e = rw e

  pub see_verdict : (n : ℕ) (q : Reply Tree) → verdict_of S R n q ≡ verdict_seen n (sight S q)
  unfolding sight
  see_verdict n (bad r) = refl
  see_verdict n (got t next kids) = go (S.is_sub t) refl
    where
      go : (c : Bool) → S.is_sub t ≡ c → passed ≡ verdict_seen n (sight S (got t next kids))
      go true e = rw e
      go false e = rw e

  pub see_count : (q : Reply Tree) → S.is_sub (tree_of S R q) ≡ true → S.count (tree_of S R q) ≡ count_seen (sight S q)
  unfolding sight
  see_count (bad r) e = true_false (S.is_sub S.blank) e flat
  see_count (got t next kids) e = rw e

  pub see_kids : (q : Reply Tree) → S.is_sub (tree_of S R q) ≡ true → kids_of q ≡ kids_seen (sight S q)
  unfolding sight
  see_kids (bad r) e = refl
  see_kids (got t next kids) e = rw e

-- ---- two readers

module _ {Tree Tree' : Type 0} (S : Shape Tree) (R : Reader Tree) (S' : Shape Tree') (R' : Reader Tree') (a : Alike S R S' R') where
  pub place_same : (n : ℕ) → place_of S R n ≡ place_of S' R' n
  unfolding place_of
  place_same zero = refl
  place_same (suc n) = go (place_same n)
    where
      go : place_of S R n ≡ place_of S' R' n → next_of (R.read n (place_of S R n)) ≡ next_of (R'.read n (place_of S' R' n))
      go e =
          see_next S R a.flat (R.read n (place_of S R n)) ∙ ap next_seen (a.read n (place_of S R n) ∙ ap (λ p. sight S' (R'.read n p)) e) ∙ sym (see_next S' R' a.flat' (R'.read n (place_of S' R' n)))

  sight_same : (n : ℕ) → sight S (reading S R n) ≡ sight S' (reading S' R' n)
  sight_same n = a.read n (place_of S R n) ∙ ap (λ p. sight S' (R'.read n p)) (place_same n)

  pub sub_same : (n : ℕ) → sub S (listing S R) n ≡ sub S' (listing S' R') n
  sub_same n = see_sub S R a.flat (reading S R n) ∙ ap sub_seen (sight_same n) ∙ sym (see_sub S' R' a.flat' (reading S' R' n))

  read_same : (n : ℕ) → read_rule S R n ≡ read_rule S' R' n
  read_same n = see_verdict S R a.flat n (reading S R n) ∙ ap (verdict_seen n) (sight_same n) ∙ sym (see_verdict S' R' a.flat' n (reading S' R' n))

  module _ (n : ℕ) (s : sub S (listing S R) n ≡ true) where
    s' : sub S' (listing S' R') n ≡ true
    s' = sym (sub_same n) ∙ s

    pub end_same : end_of S (listing S R) n ≡ end_of S' (listing S' R') n
    end_same = ap (λ c. n + 1 + c) (see_count S R a.flat (reading S R n) s ∙ ap count_seen (sight_same n) ∙ sym (see_count S' R' a.flat' (reading S' R' n) s'))

    pub stored_same : stored S R n ≡ stored S' R' n
    stored_same = see_kids S R a.flat (reading S R n) s ∙ ap kids_seen (sight_same n) ∙ sym (see_kids S' R' a.flat' (reading S' R' n) s')

  honest_same : (n : ℕ) → honest_rule S R n ≡ honest_rule S' R' n
  honest_same n = go (sub S (listing S R) n) refl
    where
      go : (c : Bool) → sub S (listing S R) n ≡ c → honest_rule S R n ≡ honest_rule S' R' n
      go false s = let s' = sym (sub_same n) ∙ s in simp (s, s')
      go true s =
          let s' = sym (sub_same n) ∙ s in
          let p = place_same (n + 1) in
          let q = stored_same n s in
          let r : place_of S R (end_of S (listing S R) n) ≡ place_of S' R' (end_of S' (listing S' R') n) = ap (λ m. place_of S R m) (end_same n s) ∙ place_same (end_of S' (listing S' R') n) in
          simp (s, s') (λ i. rule (eqb (p i + q i) (r i)) 9 n)

  from_same : (j n : ℕ) (es : List ℕ) → nest_from S (listing S R) j n es ≡ nest_from S' (listing S' R') j n es
  unfolding nest_from
  from_same zero n es = refl
  from_same (suc j) n es = go (sub S (listing S R) n) refl (from_same j (n + 1))
    where
      -- tree n, a subtree that ends at e, in a list that ends at k; f is for the rest
      opened : ℕ → ℕ → (List ℕ → Verdict) → Verdict
      opened k e f =
          if ltb (innermost k (still_open n es)) e then refused 3 n else (if leb 256 (length (still_open n es)) then refused 4 n else f (e ∷ still_open n es))

      go : (c : Bool) → sub S (listing S R) n ≡ c → ((es : List ℕ) → nest_from S (listing S R) j (n + 1) es ≡ nest_from S' (listing S' R') j (n + 1) es)
          → nest_from S (listing S R) (suc j) n es ≡ nest_from S' (listing S' R') (suc j) n es
      go false s rec = let s' = sym (sub_same n) ∙ s in simp (s, s') (rec (still_open n es))
      go true s rec =
          let s' = sym (sub_same n) ∙ s in
          let e = end_same n s in
          let t = a.trees in
          simp (s, s') (λ i. opened (t i) (e i) (λ x. rec x i))

  nest_same : nest S (listing S R) ≡ nest S' (listing S' R')
  nest_same = go (sub S (listing S R) 0) refl
    where
      go : (c : Bool) → sub S (listing S R) 0 ≡ c → nest S (listing S R) ≡ nest S' (listing S' R')
      go false s = let s' = sym (sub_same 0) ∙ s in simp (s, s')
      go true s =
          let s' = sym (sub_same 0) ∙ s in
          let e = end_same 0 s in
          let t = a.trees in
          simp (s, s') (λ i. if eqb (e i) (t i) then from_same (t i) 0 [] i else refused 3 0)

  -- the check sees no more than that
  pub check_same : check S R ≡ check S' R'
  unfolding check
  check_same =
      let t = a.trees in
      let s = a.sized in
      let b = a.bytes in
      λ i. rule (s i) 1 0 and_then each (λ n. read_same n i) (t i) and_then rule (eqb (place_same (t i) i) (b i)) 9 (t i) and_then nest_same i and_then each (λ n. honest_same n i) (t i)
