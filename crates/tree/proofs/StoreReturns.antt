-- One law for each return of the functions of src/unchecked.rt, with premises as the code's tests and calls give them.
use Prim.Native.Nat.{ℕ, ◌+◌, ◌≤◌, ◌<◌}
use mathlib.Core.Path.{◌≡◌, sym, ap, ◌∙◌}
use mathlib.Core.List.{List, [], ◌∷◌}
use native.Mathlib.Omega.{arith}
use native.Mathlib.Numerals.{add-one}
use lib.ListN.{length, get_or, set, take, length-set}
use lib.Seq.{take-suc, take_all, length-take-le}
use Rattle.format.specs.Word.{put}
use Rattle.pack.proofs.Store.{store_1, put_put, put_none}

-- ---- put_words

module _ (l : List ℕ) (at : ℕ) (ws : List ℕ) where
  pub put_first : l ≡ put l at (take 0 ws)
  put_first = sym (put_none l at)

  module _ (h : at + length ws ≤ length l) (i : ℕ) (l₁ : List ℕ) (n : length l₁ ≡ length l) (e : l₁ ≡ put l at (take i ws)) where
    pub put_next : i < length ws → set l₁ (at + i) (get_or ws i 0) ≡ put l at (take (i + 1) ws)
    put_next k =
        let x : ℕ = get_or ws i 0 in
        let t : length (take i ws) ≡ i = length-take-le i ws (omega arith) in
        store_1 l₁ (at + i) x (omega arith) ∙ ap (λ (z : List ℕ). put z (at + i) (x ∷ [])) e ∙
        put_put l at i (take i ws) (x ∷ []) t (omega arith) ∙
        ap (put l at) (sym (take-suc ws i 0 k) ∙ ap (λ (j : ℕ). take j ws) (sym (add-one i)))

    pub put_all : length ws ≤ i → l₁ ≡ put l at ws
    put_all k = e ∙ ap (put l at) (take_all i ws k)

pub set_kept : (l l₀ : List ℕ) (i x : ℕ) → length l ≡ length l₀ → length (set l i x) ≡ length l₀
set_kept l l₀ i x e = length-set l i x ∙ e

pub ruleset put_cases = (put_first, put_next, put_all, set_kept)
