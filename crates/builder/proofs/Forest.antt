-- A forest: leaves and closed subtrees one behind the other, in range (row 2), nested (row 3) and at most so deep (row 4).
use Prim.Native.Nat.{ℕ, zero, suc, ◌+◌, ◌-◌, ◌≤◌, ◌<◌}
use mathlib.Core.Bool.{Bool, true, false}
use mathlib.Core.Path.{◌≡◌, refl, sym, ap, ◌∙◌}
use mathlib.Core.List.{List, [], ◌∷◌, ◌++◌, append_assoc}
use native.Mathlib.Omega.{arith}
use native.Mathlib.Nat.{add-zero}
use borrow.Author.Tests.{ltb-true, ltb-false}
use lib.Dec.{ltb}
use lib.ListN.{length, take, get_or, length-append, get_or-append}
use lib.Seq.{get_or-append-add, take-append-add}
use Rattle.format.specs.Width.{tree_size}
use Rattle.format.specs.Verdict.{Verdict, passed, ◌and_then◌}
use Rattle.format.specs.Plain.{Listing, end_of, sub}
use Rattle.format.proofs.NestRun.{run, run_done, run_leaf, run_sub}
use Rattle.format.specs.Buffer.{word_shape}
use Rattle.format.specs.WordList.{word_fields}
use Rattle.format.specs.Builder.{word_in}
use Rattle.builder.specs.Frames.{Trees}
use Rattle.format.proofs.Each.{true_false}
use Rattle.builder.proofs.Trees.{Sized, sized_append}

-- one tree, by its words
pub record Fit (t : List ℕ) : Type 0 where
  pub size : length t ≡ tree_size
  pub fields : word_fields (word_in t) ≡ true

abbrev pub is_sub : List ℕ → Bool
is_sub t = word_shape.is_sub t

abbrev pub count_in : List ℕ → ℕ
count_in t = word_shape.count t

pub data Forest : ℕ → Trees → Type 0 where
  none : {d : ℕ} → Forest d []
  leaf : {d : ℕ} {t : List ℕ} {ts : Trees} → Fit t → is_sub t ≡ false → Forest d ts → Forest d (t ∷ ts)
  -- xs are the descendants
  tree : {d : ℕ} {t : List ℕ} {xs ys zs : Trees} → Fit t → is_sub t ≡ true → count_in t ≡ length xs → zs ≡ xs ++ ys
      → Forest d xs → Forest (suc d) ys → Forest (suc d) (t ∷ zs)

pub forest_sized : {d : ℕ} {ts : Trees} → Forest d ts → Sized ts
forest_sized none = tt
forest_sized (leaf f s r) = (f.size, forest_sized r)
forest_sized (tree {xs = xs} {ys = ys} f s c e a b) = (f.size, rw e (sized_append xs ys (forest_sized a) (forest_sized b)))

pub forest_append : {d : ℕ} {ts us : Trees} → Forest d ts → Forest d us → Forest d (ts ++ us)
forest_append none g = g
forest_append (leaf f s r) g = leaf f s (forest_append r g)
forest_append {us = us} (tree {xs = xs} {ys = ys} f s c e a b) g =
    tree f s c (ap (λ z. z ++ us) e ∙ append_assoc xs ys us) a (forest_append b g)

-- one more may nest
pub forest_more : {d : ℕ} {ts : Trees} → Forest d ts → Forest (suc d) ts
forest_more none = none
forest_more (leaf f s r) = leaf f s (forest_more r)
forest_more (tree f s c e a b) = tree f s c e (forest_more a) (forest_more b)

-- ---- the trees of xs ++ ys

front : (xs ys : Trees) (i : ℕ) → i < length xs → get_or (xs ++ ys) i [] ≡ get_or xs i []
front xs ys i h = get_or-append xs ys [] i h

behind : (xs ys : Trees) (i : ℕ) → length xs ≤ i → get_or (xs ++ ys) i [] ≡ get_or ys (i - length xs) []
behind xs ys i h =
    let e : length xs + (i - length xs) ≡ i = omega arith in
    ap (λ j. get_or (xs ++ ys) j []) (sym e) ∙ get_or-append-add xs ys (i - length xs) []

pub forest_fit : {d : ℕ} {ts : Trees} → Forest d ts → (i : ℕ) → i < length ts → Fit (get_or ts i [])
forest_fit none i h = absurd (omega arith)
forest_fit (leaf f s r) zero h = f
forest_fit (leaf f s r) (suc i) h = forest_fit r i (omega arith)
forest_fit (tree f s c e a b) zero h = f
forest_fit (tree {xs = xs} {ys = ys} f s c e a b) (suc i) h = rw e (go (ltb i (length xs)) refl (forest_fit a i) (forest_fit b (i - length xs)))
  where
    n : length (xs ++ ys) ≡ length xs + length ys
    n = length-append xs ys

    go : (x : Bool) → ltb i (length xs) ≡ x → (i < length xs → Fit (get_or xs i [])) → (i - length xs < length ys → Fit (get_or ys (i - length xs) []))
        → Fit (get_or (xs ++ ys) i [])
    go true q p r = let l = ltb-true i (length xs) q in rw (front xs ys i l) (p l)
    go false q p r =
        let l = ltb-false i (length xs) q in
        let m = ap length e in
        rw (behind xs ys i l) (r (omega (arith, n)))

-- every subtree ends within the trees
abbrev pub Ends : ℕ → Trees → Type 0
Ends n ts = (i : ℕ) → i < n → is_sub (get_or ts i []) ≡ true → i + 1 + count_in (get_or ts i []) ≤ n

ends_append : (xs ys : Trees) → Ends (length xs) xs → Ends (length ys) ys → Ends (length (xs ++ ys)) (xs ++ ys)
ends_append xs ys a b i h q = go (ltb i (length xs)) refl
  where
    n : length (xs ++ ys) ≡ length xs + length ys
    n = length-append xs ys

    go : (x : Bool) → ltb i (length xs) ≡ x → i + 1 + count_in (get_or (xs ++ ys) i []) ≤ length (xs ++ ys)
    go true t =
        let l = ltb-true i (length xs) t in
        let q' : is_sub (get_or xs i []) ≡ true = rw (front xs ys i l) at q in
        let r = a i l q' in
        rw (front xs ys i l) (omega (arith, n))
    go false t =
        let l = ltb-false i (length xs) t in
        let q' : is_sub (get_or ys (i - length xs) []) ≡ true = rw (behind xs ys i l) at q in
        let r = b (i - length xs) (omega (arith, n)) q' in
        rw (behind xs ys i l) (omega (arith, n))

pub forest_ends : {d : ℕ} {ts : Trees} → Forest d ts → Ends (length ts) ts
forest_ends none i h q = absurd (omega arith)
forest_ends (leaf f s r) zero h q = true_false _ q s
forest_ends (leaf f s r) (suc i) h q = let x = forest_ends r i (omega arith) q in omega arith
forest_ends (tree {xs = xs} {ys = ys} f s c e a b) zero h q =
    let n = length-append xs ys in
    let m = ap length e in
    omega arith
forest_ends (tree {xs = xs} {ys = ys} {zs = zs} f s c e a b) (suc i) h q =
    let z : Ends (length zs) zs = rw e (ends_append xs ys (forest_ends a) (forest_ends b)) in
    let x = z i (omega arith) q in
    omega arith

-- the first n trees, if no subtree among them reaches past n
pub forest_cut : {d : ℕ} {ts : Trees} → Forest d ts → (n : ℕ) → n ≤ length ts → Ends n ts → Forest d (take n ts)
forest_cut none zero h c = none
forest_cut none (suc n) h c = none
forest_cut (leaf f s r) zero h c = none
forest_cut (leaf f s r) (suc n) h c = leaf f s (forest_cut r n (omega arith) (λ i g q. let x = c (suc i) (omega arith) q in omega arith))
forest_cut (tree f s k e a b) zero h c = none
forest_cut (tree {xs = xs} {ys = ys} {zs = zs} f s k e a b) (suc n) h c =
    let x = c zero (omega arith) s in
    let l = length-append xs ys in
    let m = ap length e in
    let j : ℕ = n - length xs in
    let p : length xs + j ≡ n = omega arith in
    let t : take n zs ≡ xs ++ take j ys = ap (take n) e ∙ ap (λ y. take y (xs ++ ys)) (sym p) ∙ take-append-add xs ys j in
    tree f s k t a (forest_cut b j (omega arith) (λ i g q. later i g q))
  where
    at : (i : ℕ) → get_or zs (length xs + i) [] ≡ get_or ys i []
    at i = ap (λ z. get_or z (length xs + i) []) e ∙ get_or-append-add xs ys i []

    later : Ends (n - length xs) ys
    later i g q =
        let q' : is_sub (get_or zs (length xs + i) []) ≡ true = rw (at i) q in
        let x = c (suc (length xs + i)) (omega arith) q' in
        let y : suc (length xs + i) + 1 + count_in (get_or ys i []) ≤ suc n = rw (at i) at x in
        omega arith

-- ---- rows 3 and 4

pub pass_both : {u v : Verdict} → u ≡ passed → v ≡ passed → (u and_then v) ≡ passed
pass_both p q = λ i. p i and_then q i

module _ (G : Listing (List ℕ)) where
  -- the trees stand in the list from tree n on
  abbrev pub Stand : ℕ → Trees → Type 0
  Stand n ts = (i : ℕ) → i < length ts → G.tree (n + i) ≡ get_or ts i []

  stand_head : (n : ℕ) (t : List ℕ) (ts : Trees) → Stand n (t ∷ ts) → G.tree n ≡ t
  stand_head n t ts s = ap G.tree (sym (add-zero n)) ∙ s zero (omega arith)

  stand_tail : (n : ℕ) (t : List ℕ) (ts : Trees) → Stand n (t ∷ ts) → Stand (n + 1) ts
  stand_tail n t ts s i h =
      let e : n + 1 + i ≡ n + suc i = omega arith in
      ap G.tree e ∙ s (suc i) (omega arith)

  stand_front : (n : ℕ) (xs ys : Trees) → Stand n (xs ++ ys) → Stand n xs
  stand_front n xs ys s i h = s i (simp length-append (omega arith)) ∙ front xs ys i h

  stand_behind : (n : ℕ) (xs ys : Trees) → Stand n (xs ++ ys) → Stand (n + length xs) ys
  stand_behind n xs ys s i h =
      let e : n + length xs + i ≡ n + (length xs + i) = omega arith in
      ap G.tree e ∙ s (length xs + i) (simp length-append (omega arith)) ∙ get_or-append-add xs ys i []

  pub forest_run : {d : ℕ} {ts : Trees} → Forest d ts → (n : ℕ) → Stand n ts → run word_shape G n (n + length ts) d ≡ passed
  forest_run {d = d} none n s = run_done word_shape G n (n + 0) d (omega arith)
  forest_run {d = d} (leaf {t = t} {ts = ts} f q r) n s =
      let b : sub word_shape G n ≡ false = ap is_sub (stand_head n t ts s) ∙ q in
      let e : n + 1 + length ts ≡ n + suc (length ts) = omega arith in
      let x = forest_run r (n + 1) (stand_tail n t ts s) in
      run_leaf word_shape G n (n + suc (length ts)) d (omega arith) b ∙ (rw e at x)
  forest_run (tree {d = d} {t = t} {xs = xs} {ys = ys} {zs = zs} f q c e a b) n s =
      let h = stand_head n t zs s in
      let g : sub word_shape G n ≡ true = ap is_sub h ∙ q in
      let k : end_of word_shape G n ≡ n + 1 + length xs = ap (λ x. n + 1 + count_in x) h ∙ ap (λ x. n + 1 + x) c in
      let l = length-append xs ys in
      let m = ap length e in
      let u : Stand (n + 1) (xs ++ ys) = rw e at (stand_tail n t zs s) in
      let x = forest_run a (n + 1) (stand_front (n + 1) xs ys u) in
      let y = forest_run b (n + 1 + length xs) (stand_behind (n + 1) xs ys u) in
      let o : n + suc (length zs) ≡ n + 1 + length xs + length ys = omega arith in
      let v = run_sub word_shape G n (n + suc (length zs)) (suc d) (omega arith) g (omega arith) (omega arith) in
      let r : suc d - 1 ≡ d = omega arith in
      let A : run word_shape G (n + 1) (end_of word_shape G n) (suc d - 1) ≡ passed =
      ap (λ z. run word_shape G (n + 1) z (suc d - 1)) k ∙ ap (λ z. run word_shape G (n + 1) (n + 1 + length xs) z) r ∙ x in
      let B : run word_shape G (end_of word_shape G n) (n + suc (length zs)) (suc d) ≡ passed =
      ap (λ z. run word_shape G z (n + suc (length zs)) (suc d)) k ∙ ap (λ z. run word_shape G (n + 1 + length xs) z (suc d)) o ∙ y in
      v ∙ pass_both A B
