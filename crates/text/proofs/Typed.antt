-- Laws of text in a run: its length, text behind text, text that fits.
use Prim.Native.Nat.{ℕ, suc, ◌+◌, ◌≤◌, min}
use mathlib.Core.Bool.{Bool, true, false}
use mathlib.Core.Path.{◌≡◌, refl, sym, ap, ◌∙◌, subst}
use mathlib.Core.List.{List, [], ◌∷◌, ◌++◌}
use native.Mathlib.Omega.{arith}
use native.Mathlib.Nat.{add-zero}
use borrow.Author.Tests.{leb-true, leb-false}
use lib.Dec.{leb}
use lib.ListN.{length, set, take, drop, length-append}
use lib.Seq.{sets, sets-eq, length-sets, set_out, take_at}
use Rattle.text.specs.Typed.{Typed}

-- past the end nothing changes
sets_past : (vs b : List ℕ) (at : ℕ) → length b ≤ at → sets b at vs ≡ b
sets_past [] b at h = refl
sets_past (v ∷ vs) b at h = rw (set_out b at v h) (sets_past vs b (suc at) (omega arith))

sets_sets : (vs ws b : List ℕ) (at : ℕ) → sets (sets b at vs) (at + length vs) ws ≡ sets b at (vs ++ ws)
sets_sets [] ws b at = ap (λ n. sets b n ws) (add-zero at)
sets_sets (v ∷ vs) ws b at =
    let e : at + length (v ∷ vs) ≡ suc at + length vs = omega arith in
    ap (λ n. sets (sets (set b at v) (suc at) vs) n ws) e ∙ sets_sets vs ws (set b at v) (suc at)

-- from the end as from any place behind it
sets_end : (b : List ℕ) (at at' : ℕ) (vs : List ℕ) → at' ≡ min at (length b) → sets b at' vs ≡ sets b at vs
sets_end b at at' vs e = go (leb at (length b)) refl
  where
    go : (x : Bool) → leb at (length b) ≡ x → sets b at' vs ≡ sets b at vs
    go true f = let l = leb-true at (length b) f in let i : at' ≡ at = omega arith in ap (λ n. sets b n vs) i
    go false f = let l = leb-false at (length b) f in sets_past vs b at' (omega arith) ∙ sym (sets_past vs b at (omega arith))

module _ (b b₁ : List ℕ) (at r₁ : ℕ) (vs : List ℕ) (t : Typed b at vs r₁ b₁) where
  pub kept : length b₁ ≡ length b
  kept = ap length t.contents ∙ length-sets b at vs

  -- the place behind a text is in the run
  pub next_inside : r₁ ≤ length b₁
  next_inside = let e = t.next in let k = kept in omega arith

  -- two texts, the second behind the first, are one
  pub typed_then : (b₂ : List ℕ) (r₂ : ℕ) (ws : List ℕ) → Typed b₁ r₁ ws r₂ b₂ → Typed b at (vs ++ ws) r₂ b₂
  typed_then b₂ r₂ ws u =
      let e = t.next in
      let f = u.next in
      let k = kept in
      let l = length-append vs ws in
      let m = length-sets b at vs in
      record {
        next = omega arith;
        contents = u.contents ∙ ap (λ x. sets x r₁ ws) t.contents ∙ sets_end (sets b at vs) (at + length vs) r₁ ws (omega arith) ∙ sets_sets vs ws b at;
      }

pub typed_none : (b : List ℕ) (at : ℕ) → at ≤ length b → Typed b at [] at b
typed_none b at h = record { next = omega arith; contents = refl }

-- the same text
pub typed_as : (b b' : List ℕ) (at r : ℕ) (vs ws : List ℕ) → vs ≡ ws → Typed b at vs r b' → Typed b at ws r b'
typed_as b b' at r vs ws e t = subst (λ (x : List ℕ). Typed b at x r b') e t

-- a text that has room stands whole in the run's front
pub typed_whole : (b b' vs : List ℕ) (r : ℕ) → Typed b 0 vs r b' → length vs ≤ length b → take r b' ≡ vs
typed_whole b b' vs r t h =
    let e = t.next in
    let n : r ≡ length vs = omega arith in
    let q = sets-eq vs b 0 (omega arith) in
    ap (λ j. take j b') n ∙ ap (take (length vs)) (t.contents ∙ q) ∙ take_at vs (drop (0 + length vs) b) (length vs) refl
