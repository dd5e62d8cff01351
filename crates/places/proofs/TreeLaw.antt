-- From the first places to the trees: an index that a tree does not use is free.
use Prim.Native.Nat.{ℕ, ◌≤◌, ◌<◌}
use mathlib.Core.Bool.{Bool, true, false}
use mathlib.Core.Path.{◌≡◌, refl, ◌∙◌}
use mathlib.Core.List.{List}
use native.Mathlib.Omega.{arith}
use borrow.Author.Tests.{eqb-false, ne_eqb}
use lib.Dec.{eqb}
use lib.ListN.{length, get_or}
use Rattle.format.specs.Part.{same_part}
use Rattle.format.specs.WordList.{word_of, raw_from, open_part, close_part}
use Rattle.format.specs.Tables.{Mode}
use Rattle.format.specs.Writer.{find, is_part, part_index, symbol_index, raw_of}
use Rattle.places.specs.Key.{symbol_part, key_at, is_key, named}
use Rattle.places.specs.declared.key.Layout.TheVariants.{Parts, Symbols, Open, Close, Name}
use Rattle.places.proofs.FindLaw.{find_same}

-- ---- a key's first place is the part's or the symbol's

-- a symbol in a part's place
symbol_is : (x y : ℕ) → same_part (symbol_part x) (symbol_part y) ≡ eqb x y
symbol_is x y = go (eqb x y) refl
  where
    go : (b : Bool) → eqb x y ≡ b → same_part (symbol_part x) (symbol_part y) ≡ b
    go true e = simp e
    go false e = simp e

module _ (M : Mode) (l : List ℕ) (n : ℕ) where
  open_is : (i : ℕ) → is_key (key_at M.parts Parts) (key_at l Open n) i ≡ is_part M (open_part l n) i
  unfolding is_key key_at
  open_is i = refl

  close_is : (i : ℕ) → is_key (key_at M.parts Parts) (key_at l Close n) i ≡ is_part M (close_part l n) i
  unfolding is_key key_at
  close_is i = refl

  name_is : (i : ℕ) → is_key (key_at M.symbols Symbols) (key_at l Name n) i ≡ eqb (get_or M.symbols i 0) (word_of l n 1)
  unfolding is_key key_at
  name_is i = symbol_is (get_or M.symbols i 0) (word_of l n 1)

  pub open_place : find (is_key (key_at M.parts Parts) (key_at l Open n)) M.limit 0 ≡ part_index M (open_part l n)
  open_place = find_same _ _ open_is M.limit 0

  pub close_place : find (is_key (key_at M.parts Parts) (key_at l Close n)) M.limit 0 ≡ part_index M (close_part l n)
  close_place = find_same _ _ close_is M.limit 0

  pub name_place : find (is_key (key_at M.symbols Symbols) (key_at l Name n)) (length M.symbols) 0 ≡ symbol_index M (word_of l n 1)
  name_place = find_same _ _ name_is (length M.symbols) 0

-- ---- a tree by its words, with the indices that it uses

module _ (o c y o' c' y' : ℕ) (w : ℕ → ℕ) where
  raw_same : o ≡ o' → (2 < w 0 → c ≡ c') → (named (w 0) ≡ true → y ≡ y') → raw_from o c y w ≡ raw_from o' c' y' w
  unfolding raw_from named
  raw_same eo ec ey = rw eo (go _ _ _ refl refl refl)
    where
      go : (x₀ x₁ x₂ : Bool) → eqb (w 0) 0 ≡ x₀ → eqb (w 0) 1 ≡ x₁ → eqb (w 0) 2 ≡ x₂ → raw_from o' c y w ≡ raw_from o' c' y' w
      go true x₁ x₂ e₀ e₁ e₂ = simp e₀
      go false true x₂ e₀ e₁ e₂ = let q : y ≡ y' = ey (simp e₁) in simp (e₀, e₁) (rw q)
      go false false true e₀ e₁ e₂ = let q : y ≡ y' = ey (simp (e₁, e₂)) in simp (e₀, e₁, e₂) (rw q)
      go false false false e₀ e₁ e₂ =
          let d₀ = eqb-false (w 0) 0 e₀ in
          let d₁ = eqb-false (w 0) 1 e₁ in
          let d₂ = eqb-false (w 0) 2 e₂ in
          let h : 2 < w 0 = omega arith in
          let q : c ≡ c' = ec h in
          simp (e₀, e₁, e₂) (rw q)

-- tree n, below the root, by the first places of its keys
pub tree_raw : (M : Mode) (l : List ℕ) (n o c y : ℕ) → 1 ≤ n → o ≡ find (is_key (key_at M.parts Parts) (key_at l Open n)) M.limit 0
    → (2 < word_of l n 0 → c ≡ find (is_key (key_at M.parts Parts) (key_at l Close n)) M.limit 0)
    → (named (word_of l n 0) ≡ true → y ≡ find (is_key (key_at M.symbols Symbols) (key_at l Name n)) (length M.symbols) 0) → raw_from o c y (word_of l n) ≡ raw_of M l n
tree_raw M l n o c y h eo ec ey =
    let z = ne_eqb n 0 (λ e. below e) in
    simp z
    (raw_same o c y _ _ _ (word_of l n) (eo ∙ open_place M l n) (λ v. ec v ∙ close_place M l n) (λ v. ey v ∙ name_place M l n))
  where
    below : n ≡ 0 → ⊥
    below e = omega arith
