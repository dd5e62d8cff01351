-- One law for each return of the functions of src/key.rt.
use Prim.Native.Nat.{ℕ, ◌+◌, ◌*◌, ◌/◌, ◌≤◌}
use mathlib.Core.Bool.{Bool, true, false, ◌&&◌}
use mathlib.Core.Path.{◌≡◌, refl, sym, ap, ◌∙◌}
use mathlib.Core.List.{List}
use native.Mathlib.Omega.{arith}
use borrow.Author.Tests.{eq-eqb, ne_eqb}
use lib.Dec.{eqb}
use lib.ListN.{length, get_or}
use Rattle.format.specs.Width.{part_size, open_at, close_at, tree_size}
use Rattle.format.specs.Part.{Part, part_from, same_part, part_at}
use Rattle.format.specs.WordList.{word_of}
use Rattle.format.proofs.PartLaw.{part_from_lem}
use Rattle.places.specs.Key.{part_of, symbol_part, part_in, key_at, key_count, shift, named}
use Rattle.places.specs.declared.key.Key.{Key}
use Rattle.places.specs.declared.key.Layout.{Layout}
use Rattle.places.specs.declared.key.Layout.TheVariants.{Parts, Symbols, Open, Close, Name}

-- ---- key i

module _ (t : List ℕ) (w : Layout) where
  pub count_parts : w ≡ Parts → key_count t w ≡ length t / part_size
  unfolding key_count
  count_parts e = rw e

  pub count_symbols : w ≡ Symbols → key_count t w ≡ length t
  unfolding key_count
  count_symbols e = rw e

  pub count_open : w ≡ Open → key_count t w ≡ length t / tree_size
  unfolding key_count
  count_open e = rw e

  pub count_close : w ≡ Close → key_count t w ≡ length t / tree_size
  unfolding key_count
  count_close e = rw e

  pub count_name : w ≡ Name → key_count t w ≡ length t / tree_size
  unfolding key_count
  count_name e = rw e

module _ (t : List ℕ) (w : Layout) (i : ℕ) (k : Part) where
  pub part_is : w ≡ Parts → k ≡ part_at t i → k ≡ key_at t w i
  unfolding key_at
  part_is e q = q ∙ rw e

  pub symbol_is : w ≡ Symbols → k ≡ symbol_part (get_or t i 0) → k ≡ key_at t w i
  unfolding key_at
  symbol_is e q = q ∙ rw e

  -- of a tree, the part from its word j on
  tree_part : (j : ℕ) → part_in t (tree_size * i + j) ≡ part_from (word_of t i) j
  tree_part j =
      let on : (x : ℕ) → word_of t i (j + x) ≡ get_or t (tree_size * i + j + x) 0 = λ x.
      ap (λ (m : ℕ). get_or t m 0) (let e : tree_size * i + (j + x) ≡ tree_size * i + j + x = omega arith in e) in
      sym (part_from_lem (λ x. word_of t i (j + x)) (λ m. get_or t m 0) (tree_size * i + j) on) ∙ part_from_lem (λ x. word_of t i (j + x)) (word_of t i) j (λ x. refl)

  pub open_is : w ≡ Open → k ≡ part_in t (tree_size * i + open_at) → k ≡ key_at t w i
  unfolding key_at
  open_is e q = q ∙ tree_part open_at ∙ rw e

  pub close_is : w ≡ Close → k ≡ part_in t (tree_size * i + close_at) → k ≡ key_at t w i
  unfolding key_at
  close_is e q = q ∙ tree_part close_at ∙ rw e

  pub name_is : w ≡ Name → k ≡ symbol_part (word_of t i 1) → k ≡ key_at t w i
  unfolding key_at
  name_is e q = q ∙ rw e

-- the sum of two numbers that name a key is one
pub count_most : (t : List ℕ) (w : Layout) → key_count t w ≤ length t
unfolding key_count
count_most t Parts = omega arith
count_most t Symbols = omega arith
count_most t Open = omega arith
count_most t Close = omega arith
count_most t Name = omega arith

pub from_is : (t : List ℕ) (w : Layout) (base i : ℕ) (k : Part) → k ≡ key_at t w (base + i) → k ≡ shift (key_at t w) base i
unfolding shift
from_is t w base i k e = e

-- ---- two keys, field by field

pub keys_same : (x y : Key) (b : Bool) → b ≡ (eqb x.file y.file && (eqb x.ast_id y.ast_id && eqb x.context y.context)) → b ≡ same_part (part_of x) (part_of y)
keys_same x y b e = e ∙ go (eqb x.file y.file)
  where
    go : (a : Bool) → (a && (eqb x.ast_id y.ast_id && eqb x.context y.context)) ≡ ((a && eqb x.ast_id y.ast_id) && eqb x.context y.context)
    go true = refl
    go false = refl

-- ---- a tree's sort

module _ (sort : ℕ) where
  pub named_ident : sort ≡ 1 → true ≡ named sort
  unfolding named
  named_ident h = simp (eq-eqb _ _ h)

  module _ (g : sort ≡ 1 → ⊥) where
    pub named_literal : sort ≡ 2 → true ≡ named sort
    unfolding named
    named_literal h = simp (ne_eqb _ _ g, eq-eqb _ _ h)

    pub named_neither : (sort ≡ 2 → ⊥) → false ≡ named sort
    unfolding named
    named_neither h = simp (ne_eqb _ _ g, ne_eqb _ _ h)

pub ruleset key_cases =
    (count_parts, count_symbols, count_open, count_close, count_name, count_most, part_is, symbol_is, open_is, close_is, name_is, from_is, named_ident, named_literal, named_neither)
