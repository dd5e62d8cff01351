-- Laws of the distinct keys: each key has a place among them, no two are alike, each is the first like it, and their counts add up to the number of keys.
use Prim.Native.Nat.{ℕ, zero, suc, ◌+◌, ◌-◌, ◌<◌, ◌≤◌}
use mathlib.Core.Path.{◌≡◌, refl, ap, ap₂, sym, ◌∙◌, subst}
use mathlib.Core.Bool.{Bool, true, false}
use mathlib.Core.Logic.{◌⊎◌, inl, inr, ⊎_elim}
use mathlib.Core.List.{List, [], ◌∷◌, ◌++◌, map}
use native.Mathlib.Omega.{arith}
use lib.ListN.{length, get_or, length-append, get_or-append}
use lib.Seq.{get_or_at}
use Rattle.std.specs.Prelude.{if◌then◌else◌}
use Rattle.format.specs.Distinct.{any_in, tally, news, hits, times}
use Rattle.format.proofs.Tally.{amount, lt_or_le, any_none, any_at, any_some, tally_none, tally_step, amount_none, amount_one, total}
use Rattle.format.proofs.Each.{true_false}

-- to be alike is an equivalence
pub record Likeness (alike : ℕ → ℕ → Bool) : Type 0 where
  pub self : (u : ℕ) → alike u u ≡ true
  pub turn : (u v : ℕ) → alike u v ≡ true → alike v u ≡ true
  pub chain : (u v w : ℕ) → alike u v ≡ true → alike v w ≡ true → alike u w ≡ true

-- one more at the end of a list
snoc_last : (l : List ℕ) (x : ℕ) → get_or (l ++ x ∷ []) (length l) 0 ≡ x
snoc_last l x = get_or_at l x [] 0 (length l) refl

snoc_length : (l : List ℕ) (x : ℕ) → length (l ++ x ∷ []) ≡ length l + 1
snoc_length l x = length-append l (x ∷ [])

module _ (live : ℕ → Bool) (alike : ℕ → ℕ → Bool) where
  -- the distinct keys below n
  abbrev keys : ℕ → List ℕ
  keys n = news live alike n

  -- ---- from n to n + 1

  pub news_dead : (n : ℕ) → live n ≡ false → keys (n + 1) ≡ keys n
  unfolding news
  news_dead n d = let e : n + 1 ≡ suc n = omega arith in rw e (simp d)

  pub news_old : (n r : ℕ) → live n ≡ true → r < length (keys n) → alike (get_or (keys n) r 0) n ≡ true → keys (n + 1) ≡ keys n
  unfolding news
  news_old n r d h a = let e : n + 1 ≡ suc n = omega arith in rw e (simp (d, any_at (λ u. alike u n) (keys n) r h a))

  pub news_new : (n : ℕ) → live n ≡ true → ((r : ℕ) → r < length (keys n) → alike (get_or (keys n) r 0) n ≡ false)
      → keys (n + 1) ≡ keys n ++ n ∷ []
  unfolding news
  news_new n d h = let e : n + 1 ≡ suc n = omega arith in rw e (simp (d, any_none (λ u. alike u n) (keys n) h))

  -- not a key, a key that is there, or a new one
  news_cases : (n : ℕ) (A : Type 0)
      → (live n ≡ false → keys (suc n) ≡ keys n → A)
      → (live n ≡ true → (r : ℕ) → r < length (keys n) → alike (get_or (keys n) r 0) n ≡ true → keys (suc n) ≡ keys n → A)
      → (live n ≡ true → any_in (λ u. alike u n) (keys n) ≡ false → keys (suc n) ≡ keys n ++ n ∷ [] → A) → A
  unfolding news
  news_cases n A dead old new = go (live n) (any_in (λ u. alike u n) (keys n)) refl refl
    where
      go : (a b : Bool) → live n ≡ a → any_in (λ u. alike u n) (keys n) ≡ b → A
      go false b e k = dead e (simp e)
      go true true e k = let q = any_some (λ u. alike u n) (keys n) k in old e q.0 q.1 q.2 (simp (e, k))
      go true false e k = new e k (simp (e, k))

  not_any : (n r : ℕ) → any_in (λ u. alike u n) (keys n) ≡ false → r < length (keys n) → alike (get_or (keys n) r 0) n ≡ true → ⊥
  not_any n r k h a = true_false (any_in (λ u. alike u n) (keys n)) (any_at (λ u. alike u n) (keys n) r h a) k

  -- ---- the distinct keys are keys below n, in rising order

  news_all : (P : ℕ → Type 0) (n : ℕ) → ((u : ℕ) → u < n → live u ≡ true → P u) → (r : ℕ) → r < length (keys n) → P (get_or (keys n) r 0)
  unfolding news
  news_all P zero ok r h = absurd (omega arith)
  news_all P (suc n) ok r h =
      let ih : r < length (keys n) → P (get_or (keys n) r 0) = λ k. news_all P n (λ u q. ok u (omega arith)) r k in
      news_cases n (P (get_or (keys (suc n)) r 0))
      (λ d e. rw e (ih (rw e at h)))
      (λ d s hs a e. rw e (ih (rw e at h)))
      (λ d k e.
      let g : r < length (keys n ++ n ∷ []) = rw e at h in
      let g' : r < length (keys n) + 1 = rw (snoc_length (keys n) n) at g in
      rw e (⊎_elim
      (λ q. rw (get_or-append (keys n) (n ∷ []) 0 r q) (ih q))
      (λ q. let i : r ≡ length (keys n) = omega arith in rw (i, snoc_last (keys n) n) (ok n (omega arith) d))
      (lt_or_le r (length (keys n)))))

  pub news_bound : (n r : ℕ) → r < length (keys n) → get_or (keys n) r 0 < n
  news_bound n r h = news_all (λ u. u < n) n (λ u k d. k) r h

  pub news_live : (n r : ℕ) → r < length (keys n) → live (get_or (keys n) r 0) ≡ true
  news_live n r h = news_all (λ u. live u ≡ true) n (λ u k d. d) r h

  pub news_rising : (n r s : ℕ) → r < s → s < length (keys n) → get_or (keys n) r 0 < get_or (keys n) s 0
  unfolding news
  news_rising zero r s h g = absurd (omega arith)
  news_rising (suc n) r s h g =
      news_cases n (get_or (keys (suc n)) r 0 < get_or (keys (suc n)) s 0)
      (λ d e. rw e (news_rising n r s h (rw e at g)))
      (λ d i j a e. rw e (news_rising n r s h (rw e at g)))
      (λ d k e. rw e (go (rw e at g) (lt_or_le s (length l)) (news_rising n r s h)))
    where
      l : List ℕ
      l = keys n

      go : s < length (l ++ n ∷ []) → (s < length l) ⊎ (length l ≤ s) → (s < length l → get_or l r 0 < get_or l s 0)
          → get_or (l ++ n ∷ []) r 0 < get_or (l ++ n ∷ []) s 0
      go g (inl x) ih =
          let y : r < length l = omega arith in
          rw (get_or-append l (n ∷ []) 0 r y, get_or-append l (n ∷ []) 0 s x) (ih x)
      go g (inr x) ih =
          let i : s ≡ length l = omega (arith, snoc_length l n) in
          let y : r < length l = omega arith in
          rw (i, snoc_last l n, get_or-append l (n ∷ []) 0 r y) (news_bound n r y)

  -- there are no more of them than keys
  pub news_most : (n : ℕ) → length (keys n) ≤ tally live n
  unfolding news tally
  news_most zero = omega arith
  news_most (suc n) =
      news_cases n (length (keys (suc n)) ≤ (if live n then tally live n + 1 else tally live n))
      (λ d e. rw (e, d) (news_most n))
      (λ d i j a e. let h : length (keys n) ≤ tally live n = news_most n in rw (e, d) (omega arith))
      (λ d k e. let h : length (keys n) ≤ tally live n = news_most n in rw (e, d, snoc_length (keys n) n) (omega arith))

  module _ (L : Likeness alike) where
    -- every key has a place
    pub news_place : (n u : ℕ) → u < n → live u ≡ true → (r : ℕ) × (r < length (keys n)) × (alike (get_or (keys n) r 0) u ≡ true)
    news_place zero u h d = absurd (omega arith)
    news_place (suc n) u h d = ⊎_elim (λ q. earlier (news_place n u q d)) (λ q. last (let i : u ≡ n = omega arith in i)) (lt_or_le u n)
      where
        Place : List ℕ → Type 0
        Place l = (r : ℕ) × (r < length l) × (alike (get_or l r 0) u ≡ true)

        longer : Place (keys n) → Place (keys n ++ n ∷ [])
        longer (r, k, a) = (r, omega (arith, snoc_length (keys n) n), rw (get_or-append (keys n) (n ∷ []) 0 r k) a)

        earlier : Place (keys n) → Place (keys (suc n))
        earlier z =
            news_cases n (Place (keys (suc n))) (λ _ e. rw e z) (λ _ _ _ _ e. rw e z) (λ _ _ e. rw e (longer z))

        last : u ≡ n → Place (keys (suc n))
        last i =
            news_cases n (Place (keys (suc n)))
            (λ x e. true_false (live n) (ap live (sym i) ∙ d) x)
            (λ _ r k a e. rw e (r, k, rw i a))
            (λ _ _ e. rw e (length (keys n), omega (arith, snoc_length (keys n) n), rw (snoc_last (keys n) n, i) (L.self n)))

    -- no two of the distinct keys are alike
    pub news_apart : (n r s : ℕ) → r < length (keys n) → s < length (keys n)
        → alike (get_or (keys n) r 0) (get_or (keys n) s 0) ≡ true → r ≡ s
    unfolding news
    news_apart zero r s h g a = absurd (omega arith)
    news_apart (suc n) r s h g a =
        news_cases n (r ≡ s)
        (λ d e. news_apart n r s (rw e at h) (rw e at g) (rw e at a))
        (λ d i j k e. news_apart n r s (rw e at h) (rw e at g) (rw e at a))
        (λ d k e. go k (rw e at h) (rw e at g) (rw e at a) (lt_or_le r (length (keys n))) (lt_or_le s (length (keys n))) (news_apart n r s))
      where
        l : List ℕ
        l = keys n

        go : any_in (λ u. alike u n) l ≡ false → r < length (l ++ n ∷ []) → s < length (l ++ n ∷ [])
            → alike (get_or (l ++ n ∷ []) r 0) (get_or (l ++ n ∷ []) s 0) ≡ true
            → (r < length l) ⊎ (length l ≤ r) → (s < length l) ⊎ (length l ≤ s)
            → (r < length l → s < length l → alike (get_or l r 0) (get_or l s 0) ≡ true → r ≡ s) → r ≡ s
        go k h g a (inl x) (inl y) ih = ih x y (simp (get_or-append l (n ∷ []) 0 r x, get_or-append l (n ∷ []) 0 s y) at a)
        go k h g a (inl x) (inr y) ih =
            let i : s ≡ length l = omega (arith, snoc_length l n) in
            absurd (not_any n r k x (simp (i, snoc_last l n, get_or-append l (n ∷ []) 0 r x) at a))
        go k h g a (inr x) (inl y) ih =
            let i : r ≡ length l = omega (arith, snoc_length l n) in
            absurd (not_any n s k y (L.turn n (get_or l s 0) (simp (i, snoc_last l n, get_or-append l (n ∷ []) 0 s y) at a)))
        go k h g a (inr x) (inr y) ih = omega (arith, snoc_length l n)

    -- a key that is like none of the distinct ones has not been met
    pub news_unmet : (n : ℕ) → ((r : ℕ) → r < length (keys n) → alike (get_or (keys n) r 0) n ≡ false) → times live alike n n ≡ 0
    news_unmet n h = tally_none (hits live alike n) n (λ u k. go u k (live u) refl)
      where
        go : (u : ℕ) → u < n → (b : Bool) → live u ≡ b → hits live alike n u ≡ false
        go u k false e = simp e
        go u k true e = simp e (no (alike n u) refl)
          where
            no : (b : Bool) → alike n u ≡ b → b ≡ false
            no false q = refl
            no true q =
                let z = news_place n u k e in
                true_false (alike (get_or (keys n) z.0 0) n) (L.chain (get_or (keys n) z.0 0) u n z.2 (L.turn n u q)) (h z.0 z.1)

    -- ---- the distinct keys are first appearances

    -- the list only grows at its end
    news_grow : (m j r : ℕ) → r < length (keys m) → (r < length (keys (m + j))) × (get_or (keys (m + j)) r 0 ≡ get_or (keys m) r 0)
    news_grow m zero r h = let e : m + 0 ≡ m = omega arith in rw e (h, refl)
    news_grow m (suc j) r h =
        let e : m + suc j ≡ suc (m + j) = omega arith in
        let ih = news_grow m j r h in
        rw e (news_cases (m + j) ((r < length (keys (suc (m + j)))) × (get_or (keys (suc (m + j))) r 0 ≡ get_or (keys m) r 0))
        (λ d q. rw q ih)
        (λ d i k a q. rw q ih)
        (λ d k q. rw q (omega (arith, ih.0, snoc_length (keys (m + j)) (m + j)), get_or-append (keys (m + j)) ((m + j) ∷ []) 0 r ih.0 ∙ ih.1)))

    -- no key before a distinct key is like it
    pub news_first : (n r u : ℕ) → r < length (keys n) → u < get_or (keys n) r 0 → live u ≡ true → alike u (get_or (keys n) r 0) ≡ true → ⊥
    news_first n r u h g d a =
        let w : get_or (keys n) r 0 < n = news_bound n r h in
        let z = news_place (suc u) u (omega arith) d in
        let b : get_or (keys (suc u)) z.0 0 < suc u = news_bound (suc u) z.0 z.1 in
        let i : suc u + (n - suc u) ≡ n = omega arith in
        let k = subst (λ (x : ℕ). (z.0 < length (keys x)) × (get_or (keys x) z.0 0 ≡ get_or (keys (suc u)) z.0 0)) i
        (news_grow (suc u) (n - suc u) z.0 z.1) in
        let c : alike (get_or (keys n) z.0 0) (get_or (keys n) r 0) ≡ true =
        rw k.1 (L.chain (get_or (keys (suc u)) z.0 0) u (get_or (keys n) r 0) z.2 a) in
        let s : z.0 ≡ r = news_apart n z.0 r k.0 h c in
        let t : get_or (keys n) r 0 ≡ get_or (keys (suc u)) z.0 0 = ap (λ (x : ℕ). get_or (keys n) x 0) (sym s) ∙ k.1 in
        omega arith

    -- ---- the counts of the distinct keys add up to the number of keys

    abbrev summed : ℕ → List ℕ → ℕ
    summed m l = total (map (times live alike m) l)

    sum_zero : (l : List ℕ) → summed 0 l ≡ 0
    unfolding total tally
    sum_zero [] = refl
    sum_zero (x ∷ xs) = let e : summed 0 xs ≡ 0 = sum_zero xs in omega arith

    sum_step : (l : List ℕ) (m : ℕ) → summed (m + 1) l ≡ summed m l + amount (λ v. hits live alike v m) l
    unfolding total amount
    sum_step [] m = refl
    sum_step (x ∷ xs) m = go (hits live alike x m) refl (tally_step (hits live alike x) m) (sum_step xs m)
      where
        go : (b : Bool) → hits live alike x m ≡ b
            → times live alike (m + 1) x ≡ (if hits live alike x m then times live alike m x + 1 else times live alike m x)
            → summed (m + 1) xs ≡ summed m xs + amount (λ v. hits live alike v m) xs
            → times live alike (m + 1) x + summed (m + 1) xs
            ≡ times live alike m x + summed m xs
            + (if hits live alike x m then amount (λ v. hits live alike v m) xs + 1 else amount (λ v. hits live alike v m) xs)
        go true e t ih = let t' : times live alike (m + 1) x ≡ times live alike m x + 1 = t ∙ simp e in simp e (omega arith)
        go false e t ih = let t' : times live alike (m + 1) x ≡ times live alike m x = t ∙ simp e in simp e (omega arith)

    -- each key is like exactly one of the distinct ones
    pub one_place : (n m : ℕ) → m < n → amount (λ v. hits live alike v m) (keys n) ≡ (if live m then 1 else 0)
    one_place n m h = go (live m) refl
      where
        go : (b : Bool) → live m ≡ b → amount (λ v. hits live alike v m) (keys n) ≡ (if live m then 1 else 0)
        go false e = let q : ◌≡◌ {A = ℕ} (if live m then 1 else 0) 0 = simp e in amount_none (λ v. hits live alike v m) (keys n) (λ s k. simp e) ∙ sym q
        go true e =
            let z = news_place n m h e in
            let q : ◌≡◌ {A = ℕ} (if live m then 1 else 0) 1 = simp e in
            amount_one (λ v. hits live alike v m) (keys n) z.0 z.1 (simp e z.2)
            (λ s k a.
            let a' : alike (get_or (keys n) s 0) m ≡ true = simp e at a in
            news_apart n s z.0 k z.1 (L.chain (get_or (keys n) s 0) m (get_or (keys n) z.0 0) a' (L.turn (get_or (keys n) z.0 0) m z.2)))
            ∙ sym q

    pub counts_add_up : (n m : ℕ) → m ≤ n → summed m (keys n) ≡ tally live m
    unfolding tally
    counts_add_up n zero h = sum_zero (keys n)
    counts_add_up n (suc m) h =
        let i : m + 1 ≡ suc m = omega arith in
        let s : summed (suc m) (keys n) ≡ summed m (keys n) + amount (λ v. hits live alike v m) (keys n) =
        subst (λ (j : ℕ). summed j (keys n) ≡ summed m (keys n) + amount (λ v. hits live alike v m) (keys n)) i (sum_step (keys n) m) in
        s ∙ ap₂ (λ (x y : ℕ). x + y) (counts_add_up n m (omega arith)) (one_place n m (omega arith)) ∙ go (live m)
      where
        go : (b : Bool) → tally live m + (if b then 1 else 0) ≡ (if b then tally live m + 1 else tally live m)
        go true = refl
        go false = omega arith
