-- Trees one behind the other in a run: their lengths, parts, and what a store into the run does to them.
use Prim.Native.Nat.{ℕ, zero, suc, ◌+◌, ◌*◌, ◌≤◌, ◌<◌}
use mathlib.Core.Path.{◌≡◌, refl, sym, ap, ◌∙◌, fun_ext}
use mathlib.Core.List.{List, [], ◌∷◌, ◌++◌, append_assoc}
use native.Mathlib.Omega.{arith}
use lib.ListN.{length, take, drop, get_or, length-append, length-drop, take-append-drop}
use lib.Seq.{take_at, drop_at, drop-append-le, take-append-le, get_or-drop, drop-cons, take-take, drop-drop, length-take-le}
use Rattle.format.specs.WordList.{tree_list, word_of}
use Rattle.format.specs.Width.{tree_size}
use Rattle.format.specs.Word.{put}
use Rattle.format.specs.Builder.{word_in}
use Rattle.builder.specs.Frames.{Trees, flat}

-- ---- a store

pub put_seam : (a old q vs : List ℕ) (at : ℕ) → length a ≡ at → length old ≡ length vs → put (a ++ (old ++ q)) at vs ≡ a ++ (vs ++ q)
unfolding put
put_seam a old q vs at e f =
    let t = take_at a (old ++ q) at e in
    let n : length (a ++ old) ≡ at + length vs = simp length-append (omega arith) in
    let d = drop_at (a ++ old) q (at + length vs) n in
    let d' : drop (at + length vs) (a ++ (old ++ q)) ≡ q = rw append_assoc at d in
    rw (t, d') (append_assoc a vs q)

-- behind what is there
pub put_behind : (a q vs : List ℕ) (at : ℕ) → length a ≡ at → length vs ≤ length q → put (a ++ q) at vs ≡ a ++ (vs ++ drop (length vs) q)
put_behind a q vs at e h =
    let s = put_seam a (take (length vs) q) (drop (length vs) q) vs at e (length-take-le (length vs) q h) in
    rw (take-append-drop (length vs) q) at s

pub take_put : (l vs : List ℕ) (n at : ℕ) → n ≤ at → at ≤ length l → take n (put l at vs) ≡ take n l
unfolding put
take_put l vs n at h i =
    let k : n ≤ length (take at l) = rw (length-take-le at l i) h in
    let e : n ≤ length (take at l ++ vs) = simp length-append (omega arith) in
    take-append-le n (take at l ++ vs) (drop (at + length vs) l) e ∙ take-append-le n (take at l) vs k ∙ take-take n at l h

-- ---- the words of a tree

-- the first n values of w
abbrev tabled : ℕ → (ℕ → ℕ) → List ℕ
tabled zero w = []
tabled (suc n) w = w 0 ∷ tabled n (λ j. w (suc j))

tabled_take : (n : ℕ) (t : List ℕ) → n ≤ length t → tabled n (word_in t) ≡ take n t
tabled_take zero t h = refl
tabled_take (suc n) [] h = absurd (omega arith)
tabled_take (suc n) (x ∷ xs) h = ap (λ r. x ∷ r) (tabled_take n xs (omega arith))

-- a tree of a run is so many words of it
pub words_at : (l : List ℕ) (n : ℕ) → tree_size * n + tree_size ≤ length l → tree_list (word_of l n) ≡ take tree_size (drop (tree_size * n) l)
words_at l n h =
    let w : word_of l n ≡ word_in (drop (tree_size * n) l) = fun_ext (λ j. sym (get_or-drop (tree_size * n) l j 0)) in
    ap (tabled tree_size) w ∙ tabled_take tree_size (drop (tree_size * n) l) (simp length-drop (omega arith))

abbrev pub Sized : Trees → Type 0
Sized [] = Unit {0}
Sized (t ∷ ts) = (length t ≡ tree_size) × Sized ts

pub sized_append : (a b : Trees) → Sized a → Sized b → Sized (a ++ b)
sized_append [] b s u = u
sized_append (t ∷ a) b s u = (s.0, sized_append a b s.1 u)

pub flat_append : (a b : Trees) → flat (a ++ b) ≡ flat a ++ flat b
unfolding flat
flat_append [] b = refl
flat_append (t ∷ a) b = ap (λ r. t ++ r) (flat_append a b) ∙ sym (append_assoc t (flat a) (flat b))

pub flat_length : (ts : Trees) → Sized ts → length (flat ts) ≡ tree_size * length ts
unfolding flat
flat_length [] s = refl
flat_length (t ∷ ts) s =
    let a = s.0 in
    let r = flat_length ts s.1 in
    simp length-append (omega arith)

pub flat_drop : (n : ℕ) (ts : Trees) → Sized ts → n ≤ length ts → drop (tree_size * n) (flat ts) ≡ flat (drop n ts)
unfolding flat
flat_drop zero ts s h = refl
flat_drop (suc n) [] s h = absurd (omega arith)
flat_drop (suc n) (t ∷ ts) s h =
    let e : tree_size * suc n ≡ tree_size + tree_size * n = omega arith in
    let d = drop_at t (flat ts) tree_size s.0 in
    rw (e, ← (drop-drop (tree_size * n) tree_size (t ++ flat ts)), d) (flat_drop n ts s.1 (omega arith))

pub sized_take : (n : ℕ) (ts : Trees) → Sized ts → Sized (take n ts)
sized_take zero ts s = tt
sized_take (suc n) [] s = tt
sized_take (suc n) (t ∷ ts) s = (s.0, sized_take n ts s.1)

pub sized_at : (n : ℕ) (ts : Trees) → Sized ts → n < length ts → length (get_or ts n []) ≡ tree_size
sized_at n [] s h = absurd (omega arith)
sized_at zero (t ∷ ts) s h = s.0
sized_at (suc n) (t ∷ ts) s h = sized_at n ts s.1 (omega arith)

pub flat_take : (n : ℕ) (ts : Trees) → Sized ts → n ≤ length ts → take (tree_size * n) (flat ts) ≡ flat (take n ts)
flat_take n ts s h =
    let e : flat ts ≡ flat (take n ts) ++ flat (drop n ts) = ap flat (sym (take-append-drop n ts)) ∙ flat_append (take n ts) (drop n ts) in
    let k : length (flat (take n ts)) ≡ tree_size * n = flat_length (take n ts) (sized_take n ts s) ∙ ap (λ x. tree_size * x) (length-take-le n ts h) in
    ap (take (tree_size * n)) e ∙ take_at (flat (take n ts)) (flat (drop n ts)) (tree_size * n) k

-- ---- trees at the front of a run

pub tree_at_lem : (l rest : List ℕ) (ts : Trees) → l ≡ flat ts ++ rest → Sized ts → (n : ℕ) → n < length ts → tree_list (word_of l n) ≡ get_or ts n []
unfolding flat
tree_at_lem l rest ts e s n h =
    let t : List ℕ = get_or ts n [] in
    let f = flat_length ts s in
    let k : length l ≡ length (flat ts) + length rest = ap length e ∙ length-append (flat ts) rest in
    let d : drop (tree_size * n) l ≡ flat (drop n ts) ++ rest =
    ap (drop (tree_size * n)) e ∙ drop-append-le (tree_size * n) (flat ts) rest (omega arith) ∙ ap (λ x. x ++ rest) (flat_drop n ts s (omega arith)) in
    let c : flat (drop n ts) ++ rest ≡ t ++ (flat (drop (suc n) ts) ++ rest) =
    ap (λ x. flat x ++ rest) (drop-cons ts n [] h) ∙ append_assoc t (flat (drop (suc n) ts)) rest in
    words_at l n (omega arith) ∙ ap (take tree_size) (d ∙ c) ∙ take_at t (flat (drop (suc n) ts) ++ rest) tree_size (sized_at n ts s h)
