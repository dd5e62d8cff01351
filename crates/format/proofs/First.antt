-- "A part's index is its first place before those two, a symbol's its first place"; and row 5 by what stands in the tables.
use Prim.Native.Nat.{ℕ, zero, suc, ◌+◌, ◌≤◌, ◌<◌}
use mathlib.Core.Bool.{Bool, true, false, ◌&&◌}
use mathlib.Core.Path.{◌≡◌, refl, sym, subst}
use mathlib.Core.List.{List}
use native.Mathlib.Omega.{arith}
use borrow.Author.Tests.{le-ltb, ltb-true, ltb-false, eq-eqb, ne_eqb, eqb-true, eqb-false}
use lib.Dec.{eqb, ltb}
use lib.ListN.{length, get_or}
use Rattle.format.specs.Tables.{Limits, Mode, limits, indexed_below}
use Rattle.format.specs.WordList.{word_of, raw_from}
use Rattle.format.specs.Writer.{find, is_part, part_index, symbol_index, present}
use Rattle.format.specs.Width.{open_at, close_at}
use Rattle.format.specs.Part.{Part, part_from, same_part, part_at}
use Rattle.format.proofs.Each.{true_false}
use Rattle.format.proofs.PartLaw.{same_part_lem, part_same}

-- ---- the first that passes a test

pub find_at : (t : ℕ → Bool) (j i : ℕ) → find t j i < i + j → t (find t j i) ≡ true
unfolding find
find_at t zero i h = absurd (omega arith)
find_at t (suc j) i h = go (t i) refl (find_at t j (i + 1))
  where
    go : (x : Bool) → t i ≡ x → (find t j (i + 1) < i + 1 + j → t (find t j (i + 1)) ≡ true) → t (find t (suc j) i) ≡ true
    go true e rec = simp e
    go false e rec =
        let h' : find t j (i + 1) < i + suc j = simp e at h in
        simp e (rec (omega arith))

pub find_from : (t : ℕ → Bool) (j i : ℕ) → i ≤ find t j i
unfolding find
find_from t zero i = omega arith
find_from t (suc j) i = go (t i) refl (find_from t j (i + 1))
  where
    go : (x : Bool) → t i ≡ x → i + 1 ≤ find t j (i + 1) → i ≤ find t (suc j) i
    go true e rec = simp e (omega arith)
    go false e rec = simp e (omega arith)

pub find_to : (t : ℕ → Bool) (j i : ℕ) → find t j i ≤ i + j
unfolding find
find_to t zero i = omega arith
find_to t (suc j) i = go (t i) refl (find_to t j (i + 1))
  where
    go : (x : Bool) → t i ≡ x → find t j (i + 1) ≤ i + 1 + j → find t (suc j) i ≤ i + suc j
    go true e rec = simp e (omega arith)
    go false e rec = simp e (omega arith)

pub find_first : (t : ℕ → Bool) (j i m : ℕ) → t m ≡ true → i ≤ m → m < i + j → find t j i ≤ m
unfolding find
find_first t zero i m e h l = absurd (omega arith)
find_first t (suc j) i m e h l = go (t i) refl (find_first t j (i + 1) m e)
  where
    go : (x : Bool) → t i ≡ x → (i + 1 ≤ m → m < i + 1 + j → find t j (i + 1) ≤ m) → find t (suc j) i ≤ m
    go true f rec = simp f h
    go false f rec = simp f (later (eqb i m) refl)
      where
        later : (y : Bool) → eqb i m ≡ y → find t j (i + 1) ≤ m
        later true g =
            let q = eqb-true i m g in
            let f' : t m ≡ false = rw q at f in
            true_false (t m) e f'
        later false g = let q = eqb-false i m g in rec (omega arith) (omega arith)

-- none passes exactly where the end is given
pub find_none : (t : ℕ → Bool) (j i : ℕ) → find t j i ≡ i + j → (m : ℕ) → i ≤ m → m < i + j → t m ≡ false
find_none t j i e m h l = go (t m) refl
  where
    go : (x : Bool) → t m ≡ x → t m ≡ false
    go true f = let k = find_first t j i m f h l in absurd (omega arith)
    go false f = f

pub none_find : (t : ℕ → Bool) (j i : ℕ) → ((m : ℕ) → i ≤ m → m < i + j → t m ≡ false) → find t j i ≡ i + j
none_find t j i a = go (ltb (find t j i) (i + j)) refl
  where
    go : (x : Bool) → ltb (find t j i) (i + j) ≡ x → find t j i ≡ i + j
    go true e =
        let l = ltb-true (find t j i) (i + j) e in
        true_false (t (find t j i)) (find_at t j i l) (a (find t j i) (find_from t j i) l)
    go false e =
        let l = ltb-false (find t j i) (i + j) e in
        let k = find_to t j i in
        omega arith

-- ---- parts and symbols

-- which of a tree's indices is outside: a subtree alone has a close part, an ident or a literal a symbol
module _ (N : Limits) (o c y : ℕ) (w : ℕ → ℕ) where
  data Outside : Type 0 where
    opens : N.limit ≤ o → Outside
    closes : 3 ≤ w 0 → N.limit ≤ c → Outside
    symbol : 1 ≤ w 0 → w 0 ≤ 2 → N.symbols ≤ y → Outside

  both_in : (a b : Bool) {A : Type 0} → (a ≡ false → A) → (b ≡ false → A) → (a && b) ≡ false → A
  both_in true b f g e = g e
  both_in false b f g e = f refl

  outside_of : indexed_below N (raw_from o c y w) ≡ false → Outside
  unfolding raw_from
  outside_of h = go _ _ _ refl refl refl
    where
      go : (x₀ x₁ x₂ : Bool) → eqb (w 0) 0 ≡ x₀ → eqb (w 0) 1 ≡ x₁ → eqb (w 0) 2 ≡ x₂ → Outside
      go true x₁ x₂ e₀ e₁ e₂ =
          let h' : ltb o N.limit ≡ false = simp e₀ at h in
          opens (ltb-false o N.limit h')
      go false true x₂ e₀ e₁ e₂ =
          let h' : (ltb o N.limit && ltb y N.symbols) ≡ false = simp (e₀, e₁) at h in
          let q = eqb-true (w 0) 1 e₁ in
          both_in (ltb o N.limit) (ltb y N.symbols) (λ f. opens (ltb-false o N.limit f)) (λ f. symbol (omega arith) (omega arith) (ltb-false y N.symbols f)) h'
      go false false true e₀ e₁ e₂ =
          let h' : (ltb o N.limit && ltb y N.symbols) ≡ false = simp (e₀, e₁, e₂) at h in
          let q = eqb-true (w 0) 2 e₂ in
          both_in (ltb o N.limit) (ltb y N.symbols) (λ f. opens (ltb-false o N.limit f)) (λ f. symbol (omega arith) (omega arith) (ltb-false y N.symbols f)) h'
      go false false false e₀ e₁ e₂ =
          let h' : (ltb o N.limit && ltb c N.limit) ≡ false = simp (e₀, e₁, e₂) at h in
          let d₀ = eqb-false (w 0) 0 e₀ in
          let d₁ = eqb-false (w 0) 1 e₁ in
          let d₂ = eqb-false (w 0) 2 e₂ in
          both_in (ltb o N.limit) (ltb c N.limit) (λ f. opens (ltb-false o N.limit f)) (λ f. closes (omega arith) (ltb-false c N.limit f)) h'

  and_no : (a : Bool) → (a && false) ≡ false
  and_no true = refl
  and_no false = refl

  outside_not : Outside → indexed_below N (raw_from o c y w) ≡ false
  unfolding raw_from
  outside_not a = go _ _ _ refl refl refl a
    where
      go : (x₀ x₁ x₂ : Bool) → eqb (w 0) 0 ≡ x₀ → eqb (w 0) 1 ≡ x₁ → eqb (w 0) 2 ≡ x₂ → Outside → indexed_below N (raw_from o c y w) ≡ false
      go true x₁ x₂ e₀ e₁ e₂ (opens h) = let t = le-ltb o N.limit h in simp (e₀, t)
      go true x₁ x₂ e₀ e₁ e₂ (closes f h) = let q = eqb-true (w 0) 0 e₀ in absurd (omega arith)
      go true x₁ x₂ e₀ e₁ e₂ (symbol f g h) = let q = eqb-true (w 0) 0 e₀ in absurd (omega arith)
      go false true x₂ e₀ e₁ e₂ (opens h) = let t = le-ltb o N.limit h in simp (e₀, e₁, t)
      go false true x₂ e₀ e₁ e₂ (closes f h) = let q = eqb-true (w 0) 1 e₁ in absurd (omega arith)
      go false true x₂ e₀ e₁ e₂ (symbol f g h) = let t = le-ltb y N.symbols h in simp (e₀, e₁, t) (and_no (ltb o N.limit))
      go false false true e₀ e₁ e₂ (opens h) = let t = le-ltb o N.limit h in simp (e₀, e₁, e₂, t)
      go false false true e₀ e₁ e₂ (closes f h) = let q = eqb-true (w 0) 2 e₂ in absurd (omega arith)
      go false false true e₀ e₁ e₂ (symbol f g h) = let t = le-ltb y N.symbols h in simp (e₀, e₁, e₂, t) (and_no (ltb o N.limit))
      go false false false e₀ e₁ e₂ (opens h) = let t = le-ltb o N.limit h in simp (e₀, e₁, e₂, t)
      go false false false e₀ e₁ e₂ (closes f h) = let t = le-ltb c N.limit h in simp (e₀, e₁, e₂, t) (and_no (ltb o N.limit))
      go false false false e₀ e₁ e₂ (symbol f g h) =
          let d₀ = eqb-false (w 0) 0 e₀ in
          let d₁ = eqb-false (w 0) 1 e₁ in
          let d₂ = eqb-false (w 0) 2 e₂ in
          absurd (omega arith)

module _ (M : Mode) where
  -- stands at no place below the limit; at no place
  abbrev pub NoPart : Part → Type 0
  NoPart p = (i : ℕ) → i < M.limit → part_at M.parts i ≡ p → ⊥

  abbrev pub NoSymbol : ℕ → Type 0
  NoSymbol y = (i : ℕ) → i < length M.symbols → get_or M.symbols i 0 ≡ y → ⊥

  -- a part or symbol that is found stands there
  pub part_found : (p : Part) → part_index M p < M.limit → part_at M.parts (part_index M p) ≡ p
  part_found p h = same_part_lem (part_at M.parts (part_index M p)) p (find_at (is_part M p) M.limit 0 (omega arith))

  pub symbol_found : (y : ℕ) → symbol_index M y < length M.symbols → get_or M.symbols (symbol_index M y) 0 ≡ y
  symbol_found y h = eqb-true (get_or M.symbols (symbol_index M y) 0) y (find_at (λ i. eqb (get_or M.symbols i 0) y) (length M.symbols) 0 (omega arith))

  pub part_first : (p : Part) (i : ℕ) → i < M.limit → part_at M.parts i ≡ p → part_index M p ≤ i
  part_first p i h e = find_first (is_part M p) M.limit 0 i (part_same (part_at M.parts i) p e) (omega arith) (omega arith)

  pub symbol_first : (y i : ℕ) → i < length M.symbols → get_or M.symbols i 0 ≡ y → symbol_index M y ≤ i
  symbol_first y i h e = find_first (λ i. eqb (get_or M.symbols i 0) y) (length M.symbols) 0 i (eq-eqb (get_or M.symbols i 0) y e) (omega arith) (omega arith)

  -- an index past them is given exactly where there is none
  pub part_none : (p : Part) → M.limit ≤ part_index M p → NoPart p
  part_none p h i l e = let k = part_first p i l e in omega arith

  pub none_part : (p : Part) → NoPart p → M.limit ≤ part_index M p
  none_part p none = go (ltb (part_index M p) M.limit) refl
    where
      go : (x : Bool) → ltb (part_index M p) M.limit ≡ x → M.limit ≤ part_index M p
      go true e = let l = ltb-true (part_index M p) M.limit e in absurd (none (part_index M p) l (part_found p l))
      go false e = ltb-false (part_index M p) M.limit e

  pub symbol_none : (y : ℕ) → length M.symbols ≤ symbol_index M y → NoSymbol y
  symbol_none y h i l e = let k = symbol_first y i l e in omega arith

  pub none_symbol : (y : ℕ) → NoSymbol y → length M.symbols ≤ symbol_index M y
  none_symbol y none = go (ltb (symbol_index M y) (length M.symbols)) refl
    where
      go : (x : Bool) → ltb (symbol_index M y) (length M.symbols) ≡ x → length M.symbols ≤ symbol_index M y
      go true e = let l = ltb-true (symbol_index M y) (length M.symbols) e in absurd (none (symbol_index M y) l (symbol_found y l))
      go false e = ltb-false (symbol_index M y) (length M.symbols) e

  -- ---- row 5

  module _ (l : List ℕ) where
    abbrev w : ℕ → ℕ → ℕ
    w n = word_of l n

    -- tree n lacks its part or symbol; "or the last two parts are not the root's"
    pub data Absent : ℕ → Type 0 where
      root : (part_at M.pair 0 ≡ part_from (w 0) open_at → part_at M.pair 1 ≡ part_from (w 0) close_at → ⊥) → Absent 0
      open_part : (n : ℕ) → 1 ≤ n → NoPart (part_from (w n) open_at) → Absent n
      -- of a subtree
      close_part : (n : ℕ) → 1 ≤ n → 3 ≤ w n 0 → NoPart (part_from (w n) close_at) → Absent n
      -- of an ident or a literal
      own_symbol : (n : ℕ) → 1 ≤ n → 1 ≤ w n 0 → w n 0 ≤ 2 → NoSymbol (w n 1) → Absent n

    abbrev o : ℕ → ℕ
    o n = part_index M (part_from (w n) open_at)

    abbrev c : ℕ → ℕ
    c n = part_index M (part_from (w n) close_at)

    abbrev y : ℕ → ℕ
    y n = symbol_index M (w n 1)

    below_absent : (n : ℕ) → 1 ≤ n → Outside (limits M) (o n) (c n) (y n) (w n) → Absent n
    below_absent n h (opens a) = open_part n h (part_none (part_from (w n) open_at) a)
    below_absent n h (closes s a) = close_part n h s (part_none (part_from (w n) close_at) a)
    below_absent n h (symbol s t a) = own_symbol n h s t (symbol_none (w n 1) a)

    pub absent_of : (n : ℕ) → present M l n ≡ false → Absent n
    absent_of n h = go (eqb n 0) refl
      where
        go : (z : Bool) → eqb n 0 ≡ z → Absent n
        go true z =
            let q = eqb-true n 0 z in
            let h₀ : present M l 0 ≡ false = rw q at h in
            subst Absent (sym q)
            (root (λ a b.
            let x = part_same (part_at M.pair 0) (part_from (w 0) open_at) a in
            let y = part_same (part_at M.pair 1) (part_from (w 0) close_at) b in
            let h₁ : true ≡ false = simp (x, y) at h₀ in
            true_false true refl h₁))
        go false z =
            let q = eqb-false n 0 z in
            let h' : indexed_below (limits M) (raw_from (o n) (c n) (y n) (w n)) ≡ false = simp z at h in
            below_absent n (omega arith) (outside_of (limits M) (o n) (c n) (y n) (w n) h')

    not_present : (n : ℕ) → 1 ≤ n → Outside (limits M) (o n) (c n) (y n) (w n) → present M l n ≡ false
    not_present n h a =
        let z = ne_eqb n 0 (λ e. omega arith) in
        simp z (outside_not (limits M) (o n) (c n) (y n) (w n) a)

    pub absent_not : (n : ℕ) → Absent n → present M l n ≡ false
    absent_not n (root f) = go _ _ refl refl
      where
        go : (a b : Bool) → same_part (part_at M.pair 0) (part_from (w 0) open_at) ≡ a → same_part (part_at M.pair 1) (part_from (w 0) close_at) ≡ b
            → present M l 0 ≡ false
        go true true x y = absurd (f (same_part_lem (part_at M.pair 0) (part_from (w 0) open_at) x) (same_part_lem (part_at M.pair 1) (part_from (w 0) close_at) y))
        go true false x y = simp (x, y)
        go false b x y = simp x
    absent_not n (open_part m h a) = not_present n h (opens (none_part (part_from (w n) open_at) a))
    absent_not n (close_part m h s a) = not_present n h (closes s (none_part (part_from (w n) close_at) a))
    absent_not n (own_symbol m h s t a) = not_present n h (symbol s t (none_symbol (w n 1) a))
