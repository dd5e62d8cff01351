-- Stores of bytes as `put`, and runs of bytes put one behind the other.
use Prim.Native.Nat.{ℕ, ◌+◌, ◌-◌, ◌/◌, ◌%◌, ◌<◌, ◌≤◌}
use mathlib.Core.Path.{◌≡◌, sym, ap, ◌∙◌}
use mathlib.Core.List.{List, [], ◌∷◌, ◌++◌, append_assoc, append-nil}
use native.Mathlib.Omega.{arith}
use native.Mathlib.Nat.{add-zero}
use native.Mathlib.Numerals.{add-one}
use borrow.Rule.Slice.PartMut.{put_mid, post_of, Post-is}
use lib.ListN.{length, set, take, drop, length-append, length-take, take-append-drop}
use lib.Seq.{sets-eq, take_at, drop_at, drop-drop}
use Rattle.std.specs.Int.{w16, w32, to_le_bytes}
use Rattle.format.specs.Word.{half_bytes, word_bytes, put}

pub store_1 : (b : List ℕ) (at x : ℕ) → at + 1 ≤ length b → set b at x ≡ put b at (x ∷ [])
unfolding put
store_1 b at x h = sets-eq (x ∷ []) b at h

pub store_2 : (b : List ℕ) (at x y : ℕ) → at + 2 ≤ length b → set (set b at x) (at + 1) y ≡ put b at (x ∷ y ∷ [])
unfolding put
store_2 b at x y h = rw add-one (sets-eq (x ∷ y ∷ []) b at h)

-- what `copy_from_slice` leaves
pub store_bytes : (b : List ℕ) (at n : ℕ) (us vs : List ℕ) → us ≡ vs → length vs ≡ n → put_mid at (at + n - at) b us ≡ put b at vs
unfolding put
store_bytes b at n us vs e l =
    let p : post_of at (at + n - at) b ≡ drop (at + length vs) b = Post-is at (at + n) b (omega arith) ∙ ap (λ (j : ℕ). drop (at + j) b) (sym l) in
    rw (e, p, append_assoc (take at b) vs (drop (at + length vs) b))

-- the last byte needs no remainder
pub half_le : (w : ℕ) → w < 65536 → to_le_bytes w16 w ≡ half_bytes w
half_le w h = let e : w / 256 % 256 ≡ w / 256 = omega arith in rw e

pub word_le : (w : ℕ) → w < 4294967296 → to_le_bytes w32 w ≡ word_bytes w
word_le w h = let e : w / 16777216 % 256 ≡ w / 16777216 = omega arith in rw e

-- two runs, the second behind the first, are one
pub put_put : (b : List ℕ) (at n : ℕ) (vs ws : List ℕ) → length vs ≡ n → at + n + length ws ≤ length b → put (put b at vs) (at + n) ws ≡ put b at (vs ++ ws)
unfolding put
put_put b at n vs ws e h =
    let p : List ℕ = take at b ++ vs in
    let q : List ℕ = drop (at + length vs) b in
    let lp : length p ≡ at + n = simp (length-append, length-take) (omega arith) in
    let k : at + length vs + length ws ≡ at + length (vs ++ ws) = omega (arith, length-append vs ws) in
    let d : drop (at + n + length ws) (p ++ q) ≡ drop (at + length (vs ++ ws)) b = sym (drop-drop (length ws) (at + n) (p ++ q)) ∙ ap (drop (length ws)) (drop_at p q (at + n) lp) ∙ drop-drop (length ws) (at + length vs) b ∙ ap (λ (j : ℕ). drop j b) k in
    rw (take_at p q (at + n) lp, d, append_assoc (take at b) vs ws)

-- the same, as two stores leave it
pub put_then : (b b₁ b₂ : List ℕ) (at n : ℕ) (vs ws : List ℕ) → b₁ ≡ put b at vs → b₂ ≡ put b₁ (at + n) ws → length vs ≡ n → at + n + length ws ≤ length b → b₂ ≡ put b at (vs ++ ws)
put_then b b₁ b₂ at n vs ws e₁ e₂ l h = e₂ ∙ rw e₁ (put_put b at n vs ws l h)

pub put_none : (b : List ℕ) (at : ℕ) → put b at [] ≡ b
unfolding put
put_none b at = simp (append-nil, add-zero) (take-append-drop at b)
