-- A list after `put`: its length, what was put, and what stands before and behind.
use Prim.Native.Nat.{ℕ, ◌+◌, ◌-◌, ◌≤◌, ◌<◌}
use mathlib.Core.Path.{◌≡◌, sym, ap, ◌∙◌}
use mathlib.Core.List.{List, ◌++◌, append_assoc}
use native.Mathlib.Omega.{arith}
use lib.ListN.{length, take, drop, get_or, length-append, length-drop, take-append-drop, get_or-append}
use lib.Seq.{length-take-le, get_or-take, get_or-drop, get_or-append-add, take-append_seam, take-append-le, drop-append-le, drop_at, drop-drop}
use Rattle.format.specs.Word.{put}
use Rattle.format.proofs.Holds.{Holds}

module _ (b : List ℕ) (at : ℕ) (vs : List ℕ) (h : at + length vs ≤ length b) where
  pub put_length : length (put b at vs) ≡ length b
  unfolding put
  put_length =
      let l = length-take-le at b (omega arith) in
      simp (length-append, length-drop, l) (omega arith)

  front : length (take at b ++ vs) ≡ at + length vs
  front = length-append (take at b) vs ∙ ap (λ n. n + length vs) (length-take-le at b (omega arith))

  pub put_before : (i : ℕ) → i < at → get_or (put b at vs) i 0 ≡ get_or b i 0
  unfolding put
  put_before i l =
      let f = front in
      let g = length-take-le at b (omega arith) in
      get_or-append (take at b ++ vs) (drop (at + length vs) b) 0 i (omega arith) ∙ get_or-append (take at b) vs 0 i (omega arith) ∙ get_or-take at b i 0 l

  pub put_at : (i : ℕ) → i < length vs → get_or (put b at vs) (at + i) 0 ≡ get_or vs i 0
  unfolding put
  put_at i l =
      let f = front in
      let g = length-take-le at b (omega arith) in
      get_or-append (take at b ++ vs) (drop (at + length vs) b) 0 (at + i) (omega arith) ∙
      ap (λ n. get_or (take at b ++ vs) (n + i) 0) (sym g) ∙
      get_or-append-add (take at b) vs i 0

  pub put_after : (i : ℕ) → at + length vs ≤ i → get_or (put b at vs) i 0 ≡ get_or b i 0
  unfolding put
  put_after i l =
      let f = front in
      let j : ℕ = i - (at + length vs) in
      let e : length (take at b ++ vs) + j ≡ i = omega arith in
      let g : at + length vs + j ≡ i = omega arith in
      ap (λ n. get_or (put b at vs) n 0) (sym e) ∙
      get_or-append-add (take at b ++ vs) (drop (at + length vs) b) j 0 ∙
      get_or-drop (at + length vs) b j 0 ∙
      ap (λ n. get_or b n 0) g

  pub put_holds : Holds (put b at vs) at vs
  put_holds =
      let e = put_length in
      record { fits = omega arith; same = put_at }

-- ---- by parts of the run

module _ (b : List ℕ) (at : ℕ) (vs : List ℕ) (h : at ≤ length b) where
  pub put_there : take (length vs) (drop at (put b at vs)) ≡ vs
  unfolding put
  put_there =
      let q : List ℕ = drop (at + length vs) b in
      ap (λ (x : List ℕ). take (length vs) (drop at x)) (append_assoc (take at b) vs q)
      ∙ ap (take (length vs)) (drop_at (take at b) (vs ++ q) at (length-take-le at b h))
      ∙ take-append_seam vs q

  pub put_behind : (n : ℕ) → at + length vs ≤ n → drop n (put b at vs) ≡ drop n b
  unfolding put
  put_behind n g =
      let p : List ℕ = take at b ++ vs in
      let q : List ℕ = drop (at + length vs) b in
      let j : ℕ = n - (at + length vs) in
      let e : at + length vs + j ≡ n = omega arith in
      let l : length p ≡ at + length vs = length-append (take at b) vs ∙ ap (λ (x : ℕ). x + length vs) (length-take-le at b h) in
      ap (λ (x : ℕ). drop x (p ++ q)) (sym e)
      ∙ sym (drop-drop j (at + length vs) (p ++ q))
      ∙ ap (drop j) (drop_at p q (at + length vs) l)
      ∙ drop-drop j (at + length vs) b
      ∙ ap (λ (x : ℕ). drop x b) e

-- a store into the front of a run is one into the front alone
pub take_put : (b : List ℕ) (at m : ℕ) (vs : List ℕ) → at + length vs ≤ m → m ≤ length b → take m (put b at vs) ≡ put (take m b) at vs
unfolding put
take_put b at m vs g h =
    let p : List ℕ = take m b in
    let q : List ℕ = drop m b in
    let s : p ++ q ≡ b = take-append-drop m b in
    let n : length p ≡ m = length-take-le m b h in
    let split : put b at vs ≡ put p at vs ++ q =
    ap (λ (x : List ℕ). put x at vs) (sym s)
    ∙ ap (λ (x : List ℕ). x ++ vs ++ drop (at + length vs) (p ++ q)) (take-append-le at p q (omega arith))
    ∙ ap (λ (x : List ℕ). take at p ++ vs ++ x) (drop-append-le (at + length vs) p q (omega arith))
    ∙ sym (append_assoc (take at p ++ vs) (drop (at + length vs) p) q) in
    let z : length (put p at vs) ≡ m = put_length p at vs (omega arith) ∙ n in
    ap (take m) split ∙ ap (λ (x : ℕ). take x (put p at vs ++ q)) (sym z) ∙ take-append_seam (put p at vs) q
