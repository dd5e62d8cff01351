-- Laws of decimal digits: the last behind those before it, and how many there are.
use Prim.Native.Nat.{ℕ, zero, suc, ◌+◌, ◌*◌, ◌/◌, ◌%◌, ◌≤◌, ◌<◌}
use mathlib.Core.Bool.{Bool, true, false}
use mathlib.Core.Path.{◌≡◌, refl}
use mathlib.Core.List.{List, [], ◌∷◌, ◌++◌}
use native.Mathlib.Omega.{arith}
use native.Mathlib.Numerals.{add-one}
use borrow.Author.Tests.{ltb-false, lt-ltb, le-ltb}
use lib.Dec.{ltb}
use lib.ListN.{length, length-append}
use Rattle.format.specs.Lister.{digits_for, decimal}

-- more steps than digits change nothing
digits_enough : (f g n : ℕ) → n < f → n < g → digits_for f n ≡ digits_for g n
unfolding digits_for
digits_enough zero g n h k = absurd (omega arith)
digits_enough (suc f) zero n h k = absurd (omega arith)
digits_enough (suc f) (suc g) n h k = go (ltb n 10) refl (digits_enough f g (n / 10))
  where
    go : (x : Bool) → ltb n 10 ≡ x → (n / 10 < f → n / 10 < g → digits_for f (n / 10) ≡ digits_for g (n / 10)) → digits_for (suc f) n ≡ digits_for (suc g) n
    go true e rec = simp e
    go false e rec = let l = ltb-false n 10 e in let r = rec (omega arith) (omega arith) in simp (e, r)

pub decimal_one : (n : ℕ) → n < 10 → decimal n ≡ (48 + n % 10) ∷ []
unfolding digits_for
decimal_one n h = let e = lt-ltb n 10 h in rw (add-one n) (simp e)

pub decimal_more : (n : ℕ) → 10 ≤ n → decimal n ≡ decimal (n / 10) ++ ((48 + n % 10) ∷ [])
unfolding digits_for
decimal_more n h =
    let e = le-ltb n 10 h in
    let d = digits_enough n (n / 10 + 1) (n / 10) (omega arith) (omega arith) in
    rw (add-one n) (simp (e, d))

-- ---- their number

-- 10 to the k
abbrev pub tens : ℕ → ℕ
tens zero = 1
tens (suc k) = 10 * tens k

pub digits_few : (k f n : ℕ) → n < tens (suc k) → length (digits_for f n) ≤ suc k
unfolding digits_for
digits_few k zero n h = omega arith
digits_few k (suc f) n h = go k h (ltb n 10) refl (λ j. digits_few j f (n / 10))
  where
    last : (ds : List ℕ) (d j : ℕ) → length ds ≤ j → length (ds ++ (d ∷ [])) ≤ suc j
    last ds d j l = let e = length-append ds (d ∷ []) in omega arith

    go : (k : ℕ) → n < tens (suc k) → (x : Bool) → ltb n 10 ≡ x → ((j : ℕ) → n / 10 < tens (suc j) → length (digits_for f (n / 10)) ≤ suc j) → length (digits_for (suc f) n) ≤ suc k
    go k h true e rec = simp e (omega arith)
    go zero h false e rec = let l = ltb-false n 10 e in absurd (omega arith)
    go (suc k) h false e rec = simp e (last (digits_for f (n / 10)) (48 + n % 10) (suc k) (rec k (omega arith)))

pub decimal_few : (k n : ℕ) → n < tens (suc k) → length (decimal n) ≤ suc k
decimal_few k n h = digits_few k (n + 1) n h
