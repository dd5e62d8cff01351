-- The loose spans below the root of a buffer that the check has passed, up to a tree: how far the count has come, and one tree more.
use Prim.Native.Nat.{ℕ, zero, suc, ◌+◌, ◌*◌, ◌-◌, ◌≤◌, ◌<◌}
use mathlib.Core.Bool.{Bool, true, false}
use mathlib.Core.Path.{◌≡◌, refl, sym, ap, ◌∙◌, subst}
use mathlib.Core.List.{List}
use native.Mathlib.Omega.{arith}
use native.Mathlib.Nat.{add-zero}
use native.Mathlib.Numerals.{add-one}
use borrow.Author.Tests.{ne_eqb}
use lib.Dec.{eqb}
use lib.ListN.{length}
use Rattle.std.specs.Prelude.{Result, Ok, Err, if◌then◌else◌}
use Rattle.format.specs.Verdict.{passed}
use Rattle.format.specs.Reader.{Reader, Reply}
use Rattle.format.specs.Tree.{Raw, tree_at}
use Rattle.format.specs.Check.{check, place_of, next_of, Admitted}
use Rattle.format.specs.Tables.{count_rules}
use Rattle.format.specs.Buffer.{raw_shape, judge, size_reader}
use Rattle.format.specs.Loose.{Loose, loose_at, beside, loose_from, loose_below}
use Rattle.format.proofs.CheckLaw.{check_sound, next_place}
use Rattle.format.proofs.TreeBounds.{Ended, tree_ended}
use Rattle.format.proofs.Reading.{each_clean}
use Rattle.tree.specs.Loose.{loose_of}
use Rattle.decode.specs.Judge.{judged_of}
use Rattle.tree.specs.declared.raw.RawTree.{RawTree}
use Rattle.decode.specs.declared.loose.Reported.{Reported}
use Rattle.decode.proofs.JudgeUse.{told_got, told_bad, told_loose}
use Rattle.lister.specs.BySizes.{size_loose}
use Rattle.lister.proofs.Listed.{got_bad}
use Rattle.lister.proofs.Eight.{Eight, tree_eight}

not_none : (n : ℕ) → suc n ≡ 0 → ⊥
not_none n e = omega arith

no_more : (x : Bool) (n : ℕ) → (if x then 0 else n) ≤ n
no_more true n = omega arith
no_more false n = omega arith

module _ (b : List ℕ) (place : ℕ → ℕ) where
  -- one tree more, behind those before it
  from_more : (j m : ℕ) → loose_from b place (suc j) m ≡ loose_from b place j m + (loose_at b (place (m + j))).spans
  unfolding loose_from
  from_more zero m = omega (arith, ap (λ (x : ℕ). (loose_at b (place x)).spans) (add-zero m))
  from_more (suc j) m =
      let r = from_more j (m + 1) in
      let e : m + 1 + j ≡ m + suc j = omega arith in
      let f = ap (λ (x : ℕ). (loose_at b (place x)).spans) e in
      omega arith

  -- the root does not count
  pub below_more : (n : ℕ) → loose_below b place (n + 1) ≡ loose_below b place n + (if eqb n 0 then 0 else (loose_at b (place n)).spans)
  unfolding loose_from
  below_more zero = refl
  below_more (suc n) =
      let e : suc n + 1 - 1 ≡ suc n = omega arith in
      let f : suc n - 1 ≡ n = omega arith in
      let g : 1 + n ≡ suc n = omega arith in
      let z : eqb (suc n) 0 ≡ false = ne_eqb (suc n) 0 (not_none n) in
      rw (e, f, z) (from_more n 1 ∙ ap (λ (x : ℕ). loose_from b place n 1 + (loose_at b (place x)).spans) g)

module _ (b : List ℕ) (k parts symbols : ℕ) where
  abbrev R : Reader Raw
  R = size_reader b k parts symbols

  abbrev place : ℕ → ℕ
  place = place_of raw_shape R

  module _ (ok : check raw_shape R ≡ passed) where
    admitted : Admitted raw_shape R
    admitted = check_sound raw_shape R ok

    -- tree n has its bytes
    own_eight : (n : ℕ) → n < k → place n + 8 * (loose_at b (place n)).spans ≤ place (n + 1)
    unfolding size_reader
    own_eight n h =
        let c = each_clean raw_shape (λ n t. t) b k (count_rules parts symbols) admitted n h in
        subst (Eight b (place n) (loose_at b (place n)).spans) c.stands (tree_eight b (place n))

    place_few : (n : ℕ) → n ≤ k → place n ≤ length b
    unfolding size_reader place_of
    place_few zero h = omega arith
    place_few (suc n) h =
        let c = each_clean raw_shape (λ n t. t) b k (count_rules parts symbols) admitted n (omega arith) in
        let e = subst (Ended b (place n)) c.stands (tree_ended b (place n)) in
        rw add-one at e.1

    few : (n : ℕ) → n ≤ k → 8 * loose_below b place n ≤ place n
    unfolding loose_from
    few zero h = omega arith
    few (suc n) h =
        let s = few n (omega arith) in
        let o : place n + 8 * (loose_at b (place n)).spans ≤ place (suc n) = rw add-one at (own_eight n (omega arith)) in
        let m : loose_below b place (suc n) ≡ loose_below b place n + (if eqb n 0 then 0 else (loose_at b (place n)).spans) = rw add-one at (below_more b place n) in
        let l = no_more (eqb n 0) (loose_at b (place n)).spans in
        omega arith

    pub loose_few : 8 * size_loose b k parts symbols ≤ length b
    unfolding size_reader size_loose
    loose_few = let f = few k (omega arith) in let w = admitted.whole in omega arith

  -- the trees before n are counted, and tree n begins at place at
  pub record Counted (n at count : ℕ) : Type 0 where
    pub inside : n ≤ k
    pub reach : at ≡ place n
    pub total : count ≡ loose_below b place n

  pub counted_none : Counted 0 0 0
  unfolding place_of loose_from
  counted_none = record { inside = omega arith; reach = refl; total = refl }

  module _ (n at count : ℕ) (l : Counted n at count) where
    pub counted_all : k ≤ n → count ≡ size_loose b k parts symbols
    unfolding size_loose
    counted_all h =
        let i = l.inside in
        let e : n ≡ k = omega arith in
        l.total ∙ ap (loose_below b place) e

    module _ (ok : check raw_shape R ≡ passed) (h : n < k) where
      pub counted_fits : length b ≤ 65536 → (s m : ℕ) → s < 4294967296 → m ≡ (if eqb n 0 then 0 else s) → count + m < 18446744073709551616
      counted_fits g s m f e =
          let t = l.total in
          let u = few ok n l.inside in
          let v = place_few ok n l.inside in
          let w = no_more (eqb n 0) s in
          omega arith

      module _ (r : Result (Reported RawTree) ℕ) (e : judged_of r ≡ beside (loose_at b at) (judge (λ n t. t) (count_rules parts symbols) n at (tree_at b at))) where
        abbrev reply : Reply Raw
        reply = judge (λ n t. t) (count_rules parts symbols) n at (tree_at b at)

        -- no tree is refused
        pub counted_bad : (j : ℕ) → r ≡ Err j → count ≡ size_loose b k parts symbols
        unfolding size_reader
        counted_bad j q =
            let d = told_bad (loose_at b at) reply r e j q in
            got_bad _ _ _ j (sym ((admitted ok).readable n h) ∙ sym (ap (λ x. R.read n x) l.reach) ∙ d)

        pub counted_next : (y : Reported RawTree) → r ≡ Ok y → (i s m : ℕ) → i ≡ (loose_of y.loose).spans → (s ≡ i) × (s < 4294967296) → m ≡ (if eqb n 0 then 0 else s) → Counted (n + 1) y.next (count + m)
        unfolding size_reader
        counted_next y q i s m f₀ f g =
            let d = told_got (loose_at b at) reply r e y q in
            let own : s ≡ (loose_at b (place n)).spans = f.0 ∙ f₀ ∙ ap (λ (z : Loose). z.spans) (told_loose (loose_at b at) reply r e y q) ∙ ap (λ (z : ℕ). (loose_at b z).spans) l.reach in
            let adds : m ≡ (if eqb n 0 then 0 else (loose_at b (place n)).spans) = g ∙ ap (λ (z : ℕ). if eqb n 0 then 0 else z) own in
            record {
              inside = omega arith;
              reach = sym (next_place raw_shape R n ∙ ap next_of (sym (ap (λ z. R.read n z) l.reach) ∙ d));
              total = rw (l.total, adds) (sym (below_more b place n));
            }
