-- One law for each return of the functions of src/closes.rt.
use Prim.Native.Nat.{ℕ, ◌+◌, ◌*◌, ◌≤◌, ◌<◌}
use mathlib.Core.Bool.{Bool, true, false, not}
use mathlib.Core.Logic.{⊎_elim}
use mathlib.Core.Path.{◌≡◌, refl, sym, ap, subst, ◌∙◌}
use mathlib.Core.List.{List}
use native.Mathlib.Omega.{arith}
use borrow.Author.Tests.{not-false}
use lib.ListN.{length, get_or, set}
use lib.Seq.{get_or-set_same, get_or-set_other}
use Rattle.format.specs.Width.{tree_size}
use Rattle.format.specs.Part.{Part, same_part}
use Rattle.format.specs.WordList.{word_of, list_count}
use Rattle.format.specs.Writer.{find}
use Rattle.format.proofs.PartLaw.{same_part_lem}
use Rattle.format.proofs.Each.{true_false}
use Rattle.places.specs.Key.{key_at, key_count, is_key}
use Rattle.places.specs.Places.{Placed, AsOpen, Tells, Closed, Copied}
use Rattle.places.specs.declared.key.Layout.TheVariants.{Parts, Open, Close, Name}
use Rattle.slots.proofs.Cases.{eq_or_ne}
use Rattle.places.proofs.WholeReturns.{open_inside, close_inside}

module _ (l : List ℕ) (n : ℕ) (h : n ≤ list_count l) where
  pub opens_inside : n ≤ key_count l Open
  unfolding key_count
  opens_inside = h

  pub closes_inside : n ≤ key_count l Close
  unfolding key_count
  closes_inside = h

  pub names_inside : n ≤ key_count l Name
  unfolding key_count
  names_inside = h

module _ (l : List ℕ) (n : ℕ) where
  first : (j : ℕ) → j < 1 → n + j ≡ n
  first j h = omega arith

  pub leaf_tells : get_or l (tree_size * n) 0 ≤ 2 → Tells true l n 1
  leaf_tells h = record {
    yes = λ e. record {
      at = λ j u v.
          let p = first j u in
          let z : tree_size * (n + j) + 0 ≡ tree_size * n = omega arith in
          let w : word_of l (n + j) 0 ≡ get_or l (tree_size * n) 0 = ap (λ (x : ℕ). get_or l x 0) z in
          absurd (omega arith);
    };
  }

  pub same_tells : (closing opening : Part) (b : Bool) → closing ≡ key_at l Close n → opening ≡ key_at l Open n → b ≡ same_part closing opening → Tells b l n 1
  same_tells closing opening b ec eo s = record {
    yes = λ e. record {
      at = λ j u v.
          let p = first j u in
          let q : closing ≡ opening = same_part_lem closing opening (sym s ∙ e) in
          subst (λ (x : ℕ). key_at l Close x ≡ key_at l Open x) (sym p) (sym ec ∙ q ∙ eo);
    };
  }

pub ruleset as_open_cases = (open_inside, close_inside, leaf_tells)

module _ (l : List ℕ) (from : ℕ) where
  pub as_open_none : AsOpen l from 0
  as_open_none = record { at = λ j h. absurd (omega arith) }

  module _ (i : ℕ) (A : AsOpen l from i) where
    pub as_open_more : (b : Bool) → Tells b l (from + i) 1 → not b ≡ false → AsOpen l from (i + 1)
    as_open_more b T h = record {
      at = λ j u v. ⊎_elim
          (λ e. subst (λ (x : ℕ). key_at l Close (from + x) ≡ key_at l Open (from + x)) (sym e) (here (subst (λ (x : ℕ). 2 < word_of l (from + x) 0) e v)))
          (λ n. A.at j (omega arith) v)
          (eq_or_ne j i);
    }
      where
        zero_on : from + i + 0 ≡ from + i
        zero_on = omega arith

        here : 2 < word_of l (from + i) 0 → key_at l Close (from + i) ≡ key_at l Open (from + i)
        here v =
            subst (λ (x : ℕ). key_at l Close x ≡ key_at l Open x) zero_on
            ((T.yes (not-false b h)).at 0 (omega arith) (subst (λ (x : ℕ). 2 < word_of l x 0) (sym zero_on) v))

    pub as_open_all : (m : ℕ) → m ≤ i → Tells true l from m
    as_open_all m h = record { yes = λ e. record { at = λ j u v. A.at j (omega arith) v } }

  pub tells_not : (m : ℕ) → Tells false l from m
  tells_not m = record { yes = λ e. true_false false e refl }

pub ruleset all_as_open_cases = (as_open_none, as_open_more, as_open_all, tells_not)

pub copied_none : (a b : List ℕ) → Copied 0 a b
copied_none a b = record { at = λ j h. absurd (omega arith) }

pub copied_more : (i m n : ℕ) (a b : List ℕ) → Copied i a b → i < m → m ≤ n → length b ≡ n → Copied (i + 1) a (set b i (get_or a i 0))
copied_more i m n a b C h k len = record {
  at = λ j u. ⊎_elim
      (λ e. subst (λ (x : ℕ). get_or (set b i (get_or a i 0)) x 0 ≡ get_or a x 0) (sym e) (get_or-set_same b i (get_or a i 0) 0 (omega arith)))
      (λ n. get_or-set_other b i j (get_or a i 0) 0 n ∙ C.at j (omega arith))
      (eq_or_ne j i);
}

pub copied_all : (i m : ℕ) (a b : List ℕ) → Copied i a b → m ≤ i → Copied m a b
copied_all i m a b C h = record { at = λ j u. C.at j (omega arith) }

pub ruleset copy_cases = (copied_none, copied_more, copied_all)

module _ (parts l : List ℕ) (g from m : ℕ) (closes : List ℕ) where
  pub closed_placed : Placed parts Parts g l Close from m closes → Closed parts g l from m closes
  closed_placed P = record { at = λ j u v. P.done j u }

  pub closed_copied : (b : Bool) → Tells b l from m → b ≡ true → (opens : List ℕ) → Placed parts Parts g l Open from m opens → Copied m opens closes → Closed parts g l from m closes
  closed_copied b T h opens P C =
      record { at = λ j u v. C.at j u ∙ P.done j u ∙ ap (λ (x : Part). find (is_key (key_at parts Parts) x) g 0) (sym ((T.yes h).at j u v)) }

pub ruleset closes_cases = (closes_inside, closed_placed, closed_copied)
