-- The pass over a list's subtrees: leaves are passed over, and the open ends are those of the array.
use Prim.Native.Nat.{ℕ, zero, suc, ◌+◌, ◌-◌, ◌≤◌, ◌<◌}
use mathlib.Core.Bool.{Bool, true, false}
use mathlib.Core.Path.{◌≡◌, refl, ◌∙◌}
use mathlib.Core.List.{List, [], ◌∷◌}
use native.Mathlib.Omega.{arith}
use borrow.Author.Tests.{le-leb, lt-leb, lt-ltb, le-ltb, leb-true}
use lib.Dec.{leb}
use lib.ListN.{length}
use Rattle.format.specs.Verdict.{passed, refused}
use Rattle.format.specs.Nest.{still_open, innermost, nest_from}
use Rattle.format.specs.Buffer.{word_shape}
use Rattle.format.specs.WordList.{word_of, list_count, given}
use Rattle.format.specs.Writer.{find}
use Rattle.format.proofs.First.{find_at, find_from, find_to}
use Rattle.list.specs.Pass.{is_sub, next_sub, pass_from}

-- ---- the open ends

-- closing at n first changes nothing later
still_still : (n q : ℕ) → n ≤ q → (es : List ℕ) → still_open q (still_open n es) ≡ still_open q es
unfolding still_open
still_still n q h [] = refl
still_still n q h (e ∷ es) = go (leb e n) refl (still_still n q h es)
  where
    go : (b : Bool) → leb e n ≡ b → still_open q (still_open n es) ≡ still_open q es → still_open q (still_open n (e ∷ es)) ≡ still_open q (e ∷ es)
    go true t rec =
        let l = leb-true e n t in
        let u = le-leb e q (omega arith) in
        simp (t, u) rec
    go false t rec = simp t

-- ---- the pass, tree by tree

module _ (l : List ℕ) where
  nest_forget : (j m n : ℕ) (es : List ℕ) → m ≤ n → nest_from word_shape (given l) j n (still_open m es) ≡ nest_from word_shape (given l) j n es
  unfolding nest_from
  nest_forget zero m n es h = refl
  nest_forget (suc j) m n es h = rw (still_still m n h es)

  -- ends that lie before tree n may stay
  forget : (m n : ℕ) (es : List ℕ) → m ≤ n → pass_from l n (still_open m es) ≡ pass_from l n es
  unfolding pass_from
  forget m n es h = nest_forget (list_count l - n) m n es h

  abbrev around : ℕ → List ℕ → ℕ
  around n es = innermost (list_count l) (still_open n es)

  module _ (n : ℕ) (es : List ℕ) (h : n < list_count l) where
    one_less : list_count l - n ≡ suc (list_count l - (n + 1))
    one_less = omega arith

    leaf : is_sub l n ≡ false → pass_from l n es ≡ pass_from l (n + 1) (still_open n es)
    unfolding pass_from nest_from is_sub
    leaf s = rw one_less (simp s)

    pub pass_three : is_sub l n ≡ true → around n es < n + 1 + word_of l n 1 → pass_from l n es ≡ refused 3 n
    unfolding pass_from nest_from is_sub
    pass_three s a = let t = lt-ltb (around n es) (n + 1 + word_of l n 1) a in rw one_less (simp (s, t))

    pub pass_four : is_sub l n ≡ true → n + 1 + word_of l n 1 ≤ around n es → 256 ≤ length (still_open n es) → pass_from l n es ≡ refused 4 n
    unfolding pass_from nest_from is_sub
    pass_four s a b =
        let t = le-ltb (around n es) (n + 1 + word_of l n 1) a in
        let u = le-leb 256 (length (still_open n es)) b in
        rw one_less (simp (s, t, u))

    pub pass_sub : is_sub l n ≡ true → n + 1 + word_of l n 1 ≤ around n es → length (still_open n es) < 256
        → pass_from l n es ≡ pass_from l (n + 1) ((n + 1 + word_of l n 1) ∷ still_open n es)
    unfolding pass_from nest_from is_sub
    pass_sub s a b =
        let t = le-ltb (around n es) (n + 1 + word_of l n 1) a in
        let u = lt-leb 256 (length (still_open n es)) b in
        rw one_less (simp (s, t, u))

  pub pass_end : (n : ℕ) (es : List ℕ) → list_count l ≤ n → pass_from l n es ≡ passed
  unfolding pass_from nest_from
  pass_end n es h = let e : list_count l - n ≡ 0 = omega arith in rw e

  -- leaves are passed over
  skip : (j n : ℕ) (es : List ℕ) → n + j ≡ list_count l → pass_from l n es ≡ pass_from l (find (is_sub l) j n) es
  unfolding find
  skip zero n es e = refl
  skip (suc j) n es e = go (is_sub l n) refl (skip j (n + 1) es (omega arith))
    where
      go : (b : Bool) → is_sub l n ≡ b → pass_from l (n + 1) es ≡ pass_from l (find (is_sub l) j (n + 1)) es → pass_from l n es ≡ pass_from l (find (is_sub l) (suc j) n) es
      go true s rec = simp s
      go false s rec = simp s (leaf n es (omega arith) s ∙ forget n (n + 1) es (omega arith) ∙ rec)

  -- ---- the next subtree

  pub pass_next : (n : ℕ) (es : List ℕ) → n ≤ list_count l → pass_from l n es ≡ pass_from l (next_sub l n) es
  unfolding next_sub
  pass_next n es h = skip (list_count l - n) n es (omega arith)

  pub next_sub_lem : (n : ℕ) → n ≤ list_count l → next_sub l n < list_count l → is_sub l (next_sub l n) ≡ true
  unfolding next_sub
  next_sub_lem n h k = find_at (is_sub l) (list_count l - n) n (omega arith)

  pub next_most : (n : ℕ) → n ≤ list_count l → next_sub l n ≤ list_count l
  unfolding next_sub
  next_most n h = let a = find_to (is_sub l) (list_count l - n) n in omega arith

  pub next_least : (n : ℕ) → n ≤ next_sub l n
  unfolding next_sub
  next_least n = find_from (is_sub l) (list_count l - n) n

  pub next_past : (n : ℕ) → n < list_count l → is_sub l n ≡ false → next_sub l n ≡ next_sub l (n + 1)
  unfolding next_sub find
  next_past n h s = let e : list_count l - n ≡ suc (list_count l - (n + 1)) = omega arith in rw e (simp s)

  pub next_here : (n : ℕ) → n < list_count l → is_sub l n ≡ true → next_sub l n ≡ n
  unfolding next_sub find
  next_here n h s = let e : list_count l - n ≡ suc (list_count l - (n + 1)) = omega arith in rw e (simp s)

  pub next_end : (n : ℕ) → list_count l ≤ n → next_sub l n ≡ n
  unfolding next_sub find
  next_end n h = let e : list_count l - n ≡ 0 = omega arith in rw e
