-- The number of loose spans below the root: what it counts, and that it is 0 of what the writer made.
use Prim.Native.Nat.{ℕ, zero, suc, ◌+◌, ◌*◌, ◌-◌, ◌≤◌, ◌<◌}
use mathlib.Core.Bool.{Bool, true, false}
use mathlib.Core.Path.{◌≡◌, refl, ap, subst}
use mathlib.Core.List.{List}
use native.Mathlib.Omega.{arith}
use native.Mathlib.Nat.{add-zero, zero-add}
use borrow.Author.Tests.{eqb-true, eqb-false}
use lib.Dec.{eqb}
use lib.ListN.{length, get_or}
use Rattle.format.specs.Verdict.{passed}
use Rattle.format.specs.Tree.{Raw}
use Rattle.format.specs.Write.{write}
use Rattle.format.specs.Check.{place_of}
use Rattle.format.specs.Loose.{loose_leaf, loose_at, loose_from, loose_below}
use Rattle.format.specs.Tables.{Tables, Mode, mode_tables, own_mode}
use Rattle.format.specs.Buffer.{reader, word_shape, own_reader}
use Rattle.format.specs.WordList.{list_count}
use Rattle.format.specs.Writer.{raws, packed_in, list_verdict, packed}
use Rattle.format.specs.Lister.{buffer_loose}
use Rattle.format.proofs.WriteSize.{raws_length}
use Rattle.format.proofs.WriteLaw.{Lawful, write_holds}
use Rattle.format.proofs.WriterLaw.{Listed, mode_lawful, own_listed}
use Rattle.format.proofs.LooseTree.{loose_most, written_tight}

-- ---- by where trees begin

module _ (b : List ℕ) (place : ℕ → ℕ) where
  -- tree i
  abbrev spans : ℕ → ℕ
  spans i = (loose_at b (place i)).spans

  -- of j + i trees it is that of j and of the next i
  pub loose_join : (j i n : ℕ) → loose_from b place (j + i) n ≡ loose_from b place j n + loose_from b place i (n + j)
  unfolding loose_from
  loose_join zero i n = simp (add-zero, zero-add)
  loose_join (suc j) i n =
      let d : suc j + i ≡ suc (j + i) = omega arith in
      let e : n + suc j ≡ n + 1 + j = omega arith in
      rw (d, e) (omega (arith, loose_join j i (n + 1)))

  -- of one tree its own
  pub loose_one : (n : ℕ) → loose_from b place 1 n ≡ (loose_at b (place n)).spans
  unfolding loose_from
  loose_one n = add-zero _

  -- no tree stores more than two
  pub loose_bound : (j n : ℕ) → loose_from b place j n ≤ 2 * j
  unfolding loose_from
  loose_bound zero n = omega arith
  loose_bound (suc j) n = omega (arith, loose_most b (place n), loose_bound j (n + 1))

  -- none in all exactly if none in each
  pub none_each : (j n : ℕ) → loose_from b place j n ≡ 0 → (i : ℕ) → n ≤ i → i < n + j → (loose_at b (place i)).spans ≡ 0
  unfolding loose_from
  none_each zero n e i g l = absurd (omega arith)
  none_each (suc j) n e i g l = go (eqb i n) refl (none_each j (n + 1) (omega arith) i)
    where
      go : (x : Bool) → eqb i n ≡ x → (n + 1 ≤ i → i < n + 1 + j → spans i ≡ 0) → spans i ≡ 0
      go true f rec = let d = eqb-true i n f in rw d (omega arith)
      go false f rec = let d = eqb-false i n f in rec (omega arith) (omega arith)

  pub each_none : (j n : ℕ) → ((i : ℕ) → n ≤ i → i < n + j → (loose_at b (place i)).spans ≡ 0) → loose_from b place j n ≡ 0
  unfolding loose_from
  each_none zero n h = refl
  each_none (suc j) n h = omega (arith, h n (omega arith) (omega arith), each_none j (n + 1) (λ i g l. h i (omega arith) (omega arith)))

-- ---- below the root of a buffer

module _ (b : List ℕ) (k : ℕ) (parts symbols : List ℕ) where
  abbrev start : ℕ → ℕ
  start = place_of word_shape (own_reader b k parts symbols)

  -- NONE: the header says 0 exactly if no tree below the root stores a loose span
  pub loose_none : buffer_loose b k parts symbols ≡ 0 → (n : ℕ) → 0 < n → n < k → (loose_at b (start n)).spans ≡ 0
  unfolding buffer_loose
  loose_none e n g h = none_each b start (k - 1) 1 e n g (omega arith)

  pub none_loose : ((n : ℕ) → 0 < n → n < k → (loose_at b (start n)).spans ≡ 0) → buffer_loose b k parts symbols ≡ 0
  unfolding buffer_loose
  none_loose f = each_none b start (k - 1) 1 (λ i g h. f i g (omega arith))

  pub loose_at_most : buffer_loose b k parts symbols ≤ 2 * (k - 1)
  unfolding buffer_loose
  loose_at_most = loose_bound b start (k - 1) 1

-- ---- of what the writer made

-- over any tables
write_tight : (T : Tables) (ts : List Raw) (r₀ : Raw) → Lawful T ts r₀ → (n : ℕ) → 0 < n → n < length ts
    → loose_at (write ts) (place_of word_shape (reader (write ts) (length ts) T) n) ≡ loose_leaf false
write_tight T ts r₀ ok n g h = written_tight (write ts) (place_of word_shape (reader (write ts) (length ts) T) n) n (get_or ts n r₀) _ g (ok.writable n h) (write_holds T ts r₀ ok n h)

module _ (M : Mode) (l : List ℕ) (ok : Listed M l) where
  abbrev begins : ℕ → ℕ
  begins = place_of word_shape (reader (packed_in M l) (list_count l) (mode_tables M))

  -- in every table mode, tree by tree
  pub mode_tight : (n : ℕ) → 0 < n → n < list_count l → loose_at (packed_in M l) (begins n) ≡ loose_leaf false
  mode_tight n g h =
      let z = raws_length M l (list_count l) 0 in
      let e = write_tight (mode_tables M) (raws M l (list_count l) 0) _ (mode_lawful M l ok) n g (omega arith) in
      subst (λ x. loose_at (packed_in M l) (place_of word_shape (reader (packed_in M l) x (mode_tables M)) n) ≡ loose_leaf false) z e

  -- … and in all
  pub mode_loose : loose_below (packed_in M l) begins (list_count l) ≡ 0
  mode_loose = each_none (packed_in M l) begins (list_count l - 1) 1 (λ i g h. ap (λ x. x.spans) (mode_tight i g (omega arith)))

-- document 01's mode
module _ (parts symbols l : List ℕ) (ok : list_verdict parts symbols l ≡ passed) where
  pub packed_tight : (n : ℕ) → 0 < n → n < list_count l → loose_at (packed parts symbols l) (place_of word_shape (own_reader (packed parts symbols l) (list_count l) parts symbols) n) ≡ loose_leaf false
  unfolding own_reader
  packed_tight = mode_tight (own_mode parts symbols) l (own_listed parts symbols l ok)

  -- "loose 0" of a written buffer
  pub packed_loose : buffer_loose (packed parts symbols l) (list_count l) parts symbols ≡ 0
  unfolding buffer_loose own_reader
  packed_loose = mode_loose (own_mode parts symbols) l (own_listed parts symbols l ok)
