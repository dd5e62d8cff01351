-- The distinct keys of one class are the distinct keys that are of the class.
use Prim.Native.Nat.{ℕ, zero, suc, ◌+◌, ◌<◌, ◌≤◌}
use mathlib.Core.Path.{◌≡◌, refl, ap, sym, ◌∙◌}
use mathlib.Core.Bool.{Bool, true, false, ◌&&◌, ◌||◌}
use mathlib.Core.List.{List, [], ◌∷◌, ◌++◌}
use native.Mathlib.Omega.{arith}
use lib.ListN.{length}
use lib.Dec.{ltb, eqb}
use borrow.Author.Tests.{eqb-true, eqb-false, ltb-true, ltb-false, lt-ltb, le-ltb, lt-leb}
use Rattle.std.specs.Prelude.{if◌then◌else◌}
use Rattle.format.specs.Distinct.{any_in, news, hits, times}
use Rattle.format.proofs.Tally.{amount, tally_same}
use Rattle.format.specs.MakeTables.{key_count, live_at, key_word, alike_at, keys_of, times_of}
use Rattle.format.proofs.Each.{true_false, and_right}
use Rattle.keys.specs.Keys.{class_of, live_in}
use Rattle.keys.proofs.KeyReturns.{class_same}
use Rattle.slots.proofs.HashLaw.{mix_lt}
use Rattle.distinct.proofs.Amounts.{amount_last}

-- ---- amounts

pub amount_same : (f g : ℕ → Bool) (xs : List ℕ) → ((x : ℕ) → f x ≡ g x) → amount f xs ≡ amount g xs
unfolding amount
amount_same f g [] h = refl
amount_same f g (x ∷ xs) h = rw (h x, amount_same f g xs h)

any_amount : (f : ℕ → Bool) (xs : List ℕ) → any_in f xs ≡ ltb 0 (amount f xs)
unfolding any_in amount
any_amount f [] = refl
any_amount f (x ∷ xs) = go (f x) (any_amount f xs)
  where
    go : (b : Bool) → any_in f xs ≡ ltb 0 (amount f xs) → (b || any_in f xs) ≡ ltb 0 (if b then amount f xs + 1 else amount f xs)
    go true e = let h : 0 < amount f xs + 1 = omega arith in sym (lt-ltb 0 (amount f xs + 1) h)
    go false e = e

amount_never : (xs : List ℕ) → amount (λ v. false) xs ≡ 0
unfolding amount
amount_never [] = refl
amount_never (x ∷ xs) = amount_never xs

pub amount_most : (f : ℕ → Bool) (xs : List ℕ) → amount f xs ≤ length xs
unfolding amount
amount_most f [] = omega arith
amount_most f (x ∷ xs) = go (f x) (amount_most f xs)
  where
    go : (b : Bool) → amount f xs ≤ length xs → (if b then amount f xs + 1 else amount f xs) ≤ suc (length xs)
    go true e = omega arith
    go false e = omega arith

-- ---- one class of any keys

module _ (live : ℕ → Bool) (alike : ℕ → ℕ → Bool) (in_it : ℕ → Bool) (same : (u v : ℕ) → alike u v ≡ true → in_it u ≡ in_it v) where
  abbrev some : ℕ → Bool
  some v = live v && in_it v

  -- whether a key of the class is there turns on the class alone
  met_same : (f : ℕ → Bool) (xs ys : List ℕ) → amount f xs ≡ amount (λ v. f v && in_it v) ys → ((u : ℕ) → (f u && in_it u) ≡ f u) → any_in f xs ≡ any_in f ys
  met_same f xs ys e h =
      any_amount f xs ∙ ap (ltb 0) (e ∙ amount_same (λ v. f v && in_it v) f ys h) ∙ sym (any_amount f ys)

  pub class_amount : (n : ℕ) (f : ℕ → Bool) → amount f (news some alike n) ≡ amount (λ v. f v && in_it v) (news live alike n)
  unfolding news amount
  class_amount zero f = refl
  class_amount (suc n) f =
      go (live n) (in_it n) (any_in (λ u. alike u n) (news some alike n)) (any_in (λ u. alike u n) (news live alike n)) refl (class_amount n f)
      (λ i. met_same (λ u. alike u n) (news some alike n) (news live alike n) (class_amount n (λ u. alike u n)) (inside i))
    where
      inside : in_it n ≡ true → (u : ℕ) → (alike u n && in_it u) ≡ alike u n
      inside i u = cases (alike u n) refl
        where
          cases : (b : Bool) → alike u n ≡ b → (b && in_it u) ≡ b
          cases true e = same u n e ∙ i
          cases false e = refl

      go : (a c x y : Bool) → in_it n ≡ c → amount f (news some alike n) ≡ amount (λ v. f v && in_it v) (news live alike n) → (c ≡ true → x ≡ y)
          → amount f (if a && c then (if x then news some alike n else news some alike n ++ n ∷ []) else news some alike n)
          ≡ amount (λ v. f v && in_it v) (if a then (if y then news live alike n else news live alike n ++ n ∷ []) else news live alike n)
      go false c x y i e h = e
      go true false x true i e h = e
      go true false x false i e h = e ∙ sym (amount_last (λ v. f v && in_it v) (news live alike n) n ∙ rest (f n))
        where
          rest : (b : Bool) → (if b && in_it n then amount (λ v. f v && in_it v) (news live alike n) + 1 else amount (λ v. f v && in_it v) (news live alike n))
              ≡ amount (λ v. f v && in_it v) (news live alike n)
          rest true = simp i
          rest false = refl
      go true true true true i e h = e
      go true true true false i e h = true_false false (sym (h refl)) refl
      go true true false true i e h = true_false false (h refl) refl
      go true true false false i e h =
          amount_last f (news some alike n) n ∙ rest (f n) ∙ sym (amount_last (λ v. f v && in_it v) (news live alike n) n)
        where
          rest : (b : Bool) → (if b then amount f (news some alike n) + 1 else amount f (news some alike n))
              ≡ (if b && in_it n then amount (λ v. f v && in_it v) (news live alike n) + 1 else amount (λ v. f v && in_it v) (news live alike n))
          rest true = simp i (omega arith)
          rest false = e

  -- a key of the class stands as often among those of the class
  pub class_times : (n v : ℕ) → in_it v ≡ true → times some alike n v ≡ times live alike n v
  class_times n v i = tally_same (hits some alike v) (hits live alike v) n (λ u k. cases u (alike v u) refl (live u))
    where
      none : (c : Bool) → (c && false) ≡ false
      none true = refl
      none false = refl

      cases : (u : ℕ) (b : Bool) → alike v u ≡ b → (a : Bool) → ((a && in_it u) && b) ≡ (a && b)
      cases u true e true = let q : in_it u ≡ true = sym (same v u e) ∙ i in rw q
      cases u true e false = refl
      cases u false e true = none (in_it u)
      cases u false e false = refl

-- ---- the classes of a list's keys

module _ (l : List ℕ) (s : Bool) (C : ℕ) where
  abbrev class : ℕ → ℕ
  class v = class_of l s C v

  abbrev ks : List ℕ
  ks = keys_of l s

  pub class_lt : 0 < C → (v : ℕ) → class v < C
  unfolding class_of
  class_lt h v = go s
    where
      go : (s : Bool) → class_of l s C v < C
      go true = mix_lt 0 (key_word l true v 0) 0 C h
      go false = mix_lt (key_word l false v 2) (key_word l false v 0) (key_word l false v 1) C h

  module _ (k : ℕ) (many : 1 < C) where
    is_some : live_in l s C k ≡ (λ v. live_at l s v && eqb (class v) k)
    unfolding live_in
    is_some = simp (lt-leb _ _ many)

    same : (u v : ℕ) → alike_at l s u v ≡ true → eqb (class u) k ≡ eqb (class v) k
    same u v h = ap (λ (x : ℕ). eqb x k) (class_same l C u v s h)

    pub in_amount : (f : ℕ → Bool) → amount f (news (live_in l s C k) (alike_at l s) (key_count l s)) ≡ amount (λ v. f v && eqb (class v) k) ks
    unfolding keys_of
    in_amount f = rw is_some (class_amount (live_at l s) (alike_at l s) (λ v. eqb (class v) k) same (key_count l s) f)

    pub in_times : (v : ℕ) → live_in l s C k v ≡ true → times (live_in l s C k) (alike_at l s) (key_count l s) v ≡ times_of l s v
    unfolding times_of
    in_times v d =
        let e : (live_at l s v && eqb (class v) k) ≡ true = rw is_some at d in
        rw is_some (class_times (live_at l s) (alike_at l s) (λ v. eqb (class v) k) same (key_count l s) v (and_right (live_at l s v) (eqb (class v) k) e))

  -- one class more
  class_more : (f : ℕ → Bool) (k : ℕ) (xs : List ℕ)
      → amount (λ v. f v && ltb (class v) (k + 1)) xs ≡ amount (λ v. f v && ltb (class v) k) xs + amount (λ v. f v && eqb (class v) k) xs
  unfolding amount
  class_more f k [] = refl
  class_more f k (x ∷ xs) = go (f x) (ltb (class x) (k + 1)) (ltb (class x) k) (eqb (class x) k) refl refl refl (class_more f k xs)
    where
      A : ℕ
      A = amount (λ v. f v && ltb (class v) (k + 1)) xs

      B : ℕ
      B = amount (λ v. f v && ltb (class v) k) xs

      D : ℕ
      D = amount (λ v. f v && eqb (class v) k) xs

      go : (b p q r : Bool) → ltb (class x) (k + 1) ≡ p → ltb (class x) k ≡ q → eqb (class x) k ≡ r → A ≡ B + D
          → (if b && p then A + 1 else A) ≡ (if b && q then B + 1 else B) + (if b && r then D + 1 else D)
      go false p q r x y z e = e
      go true true true false x y z e = omega arith
      go true true false true x y z e = omega arith
      go true false false false x y z e = e
      go true true true true h y z e = let u : class x < k = ltb-true _ _ y in let w : class x ≡ k = eqb-true _ _ z in absurd (omega arith)
      go true true false false h y z e =
          let u : class x < k + 1 = ltb-true _ _ h in
          let w : k ≤ class x = ltb-false _ _ y in
          let i : class x ≡ k = omega arith in
          absurd (eqb-false _ _ z i)
      go true false true r h y z e = let u : class x < k = ltb-true _ _ y in let w : k + 1 ≤ class x = ltb-false _ _ h in absurd (omega arith)
      go true false false true h y z e = let u : class x ≡ k = eqb-true _ _ z in let w : k + 1 ≤ class x = ltb-false _ _ h in absurd (omega arith)

  pub news_more : (f : ℕ → Bool) (k : ℕ) → 1 < C
      → amount (λ v. f v && ltb (class v) (k + 1)) ks ≡ amount (λ v. f v && ltb (class v) k) ks + amount f (news (live_in l s C k) (alike_at l s) (key_count l s))
  news_more f k h = class_more f k ks ∙ ap (λ (x : ℕ). amount (λ v. f v && ltb (class v) k) ks + x) (sym (in_amount k h f))

  -- no class
  pub news_zero : (f : ℕ → Bool) → amount (λ v. f v && ltb (class v) 0) ks ≡ 0
  news_zero f = amount_same (λ v. f v && ltb (class v) 0) (λ v. false) ks (λ v. go (f v) v) ∙ amount_never ks
    where
      go : (b : Bool) (v : ℕ) → (b && ltb (class v) 0) ≡ false
      go true v = le-ltb (class v) 0 (let z : 0 ≤ class v = omega arith in z)
      go false v = refl

  -- all classes
  pub news_every : (f : ℕ → Bool) → 0 < C → amount (λ v. f v && ltb (class v) C) ks ≡ amount f ks
  news_every f h = amount_same (λ v. f v && ltb (class v) C) f ks (λ v. go (f v) v)
    where
      go : (b : Bool) (v : ℕ) → (b && ltb (class v) C) ≡ b
      go true v = lt-ltb _ _ (class_lt h v)
      go false v = refl
