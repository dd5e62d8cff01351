-- One law for each return of the functions of src/state.rt, with premises as the code's tests and calls give them.
use Prim.Native.Nat.{ℕ, ◌+◌, ◌*◌, ◌/◌, ◌≤◌, ◌<◌}
use mathlib.Core.Bool.{Bool, true, false, ◌&&◌}
use mathlib.Core.Path.{◌≡◌, refl, sym, ap, ◌∙◌}
use mathlib.Core.List.{List}
use native.Mathlib.Omega.{arith}
use native.Mathlib.Nat.{add-zero}
use borrow.Author.Tests.{le-ltb, lt-ltb, eq-eqb, ne_eqb, ltb-true}
use lib.Dec.{leb, ltb, eqb}
use lib.ListN.{length, get_or}
use Rattle.format.specs.Width.{tree_size}
use Rattle.format.specs.WordList.{list_count}
use Rattle.format.specs.Builder.{sub_at, open_fit, disagrees}
use Rattle.format.proofs.Each.{and_left, and_right}
use Rattle.builder.specs.State.{numbers, state_of}
use Rattle.builder.proofs.Numbers.{numbers_length, numbers_last}

-- ---- is_subtree

pub sort_of : (l : List ℕ) (n : ℕ) → eqb (get_or l (tree_size * n) 0) 3 ≡ sub_at l n
sort_of l n = simp add-zero

-- ---- open_fit: from tree to tree down the array

module _ (l a : List ℕ) where
  step_down : (top i : ℕ)
      → open_fit l top (numbers a (i + 1)) ≡ (leb 1 (get_or a i 0) && ltb (get_or a i 0) top && sub_at l (get_or a i 0) && open_fit l (get_or a i 0) (numbers a i))
  unfolding open_fit
  step_down top i = let e = numbers_last a i in rw e

  none_left : (top : ℕ) → open_fit l top (numbers a 0) ≡ true
  unfolding open_fit numbers
  none_left top = refl

  module _ (n depth top d : ℕ) (inv : open_fit l n (numbers a depth) ≡ open_fit l top (numbers a d)) where
    module _ (i : ℕ) (h : i + 1 ≡ d) (r : Bool) (e : r ≡ (leb 1 (get_or a i 0) && ltb (get_or a i 0) top && sub_at l (get_or a i 0))) where
      here : open_fit l n (numbers a depth) ≡ (leb 1 (get_or a i 0) && ltb (get_or a i 0) top && sub_at l (get_or a i 0) && open_fit l (get_or a i 0) (numbers a i))
      here = inv ∙ ap (λ (x : ℕ). open_fit l top (numbers a x)) (sym h) ∙ step_down top i

      pub open_unfit : r ≡ false → false ≡ open_fit l n (numbers a depth)
      open_unfit k = let z = sym e ∙ k in sym (here ∙ simp z)

      module _ (k : r ≡ true) where
        pub open_again : open_fit l n (numbers a depth) ≡ open_fit l (get_or a i 0) (numbers a i)
        open_again = let z = sym e ∙ k in here ∙ simp z

        -- an open tree is below the one over it
        pub open_below : (c : ℕ) → top ≤ c → get_or a i 0 ≤ c
        open_below c b =
            let m = get_or a i 0 in
            let z : ltb m top ≡ true = and_right (leb 1 m) (ltb m top) (and_left (leb 1 m && ltb m top) (sub_at l m) (sym e ∙ k)) in
            let y = ltb-true m top z in
            omega arith

    pub open_done : d ≡ 0 → true ≡ open_fit l n (numbers a depth)
    open_done z = sym (inv ∙ ap (λ (x : ℕ). open_fit l top (numbers a x)) z ∙ none_left top)

pub ruleset fit_cases = (open_unfit, open_again, open_below, open_done)

-- ---- disagrees

module _ (l a : List ℕ) (n d : ℕ) where
  pub none_10 : n ≡ 0 → true ≡ disagrees l (state_of n d a)
  unfolding disagrees
  none_10 h = simp (eq-eqb _ _ h)

  module _ (h₀ : n ≡ 0 → ⊥) where
    pub many_10 : 1048576 < n → true ≡ disagrees l (state_of n d a)
    unfolding disagrees
    many_10 h = simp (ne_eqb _ _ h₀, lt-ltb _ _ h)

    module _ (h₁ : n ≤ 1048576) (m : ℕ) (e : m ≡ n) where
      pub run_10 : length l / tree_size < m → true ≡ disagrees l (state_of n d a)
      unfolding disagrees
      run_10 h = let k : list_count l < n = omega arith in simp (ne_eqb _ _ h₀, le-ltb _ _ h₁, lt-ltb _ _ k)

      module _ (h₂ : m ≤ length l / tree_size) where
        within : ltb (list_count l) n ≡ false
        within = le-ltb (list_count l) n (omega arith)

        pub deep_10 : 255 < d → true ≡ disagrees l (state_of n d a)
        unfolding disagrees
        deep_10 h = let k : 255 < length (numbers a d) = rw (numbers_length a d) h in simp (ne_eqb _ _ h₀, le-ltb _ _ h₁, within, lt-ltb _ _ k)

        module _ (h₃ : d ≤ 255) (x : Bool) (f : x ≡ sub_at l 0) where
          few : ltb 255 (length (numbers a d)) ≡ false
          few = le-ltb 255 (length (numbers a d)) (rw (numbers_length a d) h₃)

          pub root_10 : x ≡ false → true ≡ disagrees l (state_of n d a)
          unfolding disagrees
          root_10 h = let k : sub_at l 0 ≡ false = sym f ∙ h in simp (ne_eqb _ _ h₀, le-ltb _ _ h₁, within, few, k)

          module _ (h₄ : x ≡ true) (y : Bool) (g : y ≡ open_fit l n (numbers a d)) where
            rooted : sub_at l 0 ≡ true
            rooted = sym f ∙ h₄

            pub open_10 : y ≡ false → true ≡ disagrees l (state_of n d a)
            unfolding disagrees
            open_10 h = let k : open_fit l n (numbers a d) ≡ false = sym g ∙ h in simp (ne_eqb _ _ h₀, le-ltb _ _ h₁, within, few, rooted, k)

            pub all_agree : y ≡ true → false ≡ disagrees l (state_of n d a)
            unfolding disagrees
            all_agree h = let k : open_fit l n (numbers a d) ≡ true = sym g ∙ h in simp (ne_eqb _ _ h₀, le-ltb _ _ h₁, within, few, rooted, k)

pub ruleset disagree_cases = (none_10, many_10, run_10, deep_10, root_10, open_10, all_agree)
