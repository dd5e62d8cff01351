-- One law for each return of the functions of src/whole.rt.
use Prim.Native.Nat.{ℕ, ◌+◌, ◌*◌, ◌-◌, ◌≤◌, ◌<◌}
use mathlib.Core.Bool.{Bool, true, false}
use mathlib.Core.Logic.{⊎_elim}
use mathlib.Core.Path.{◌≡◌, sym, ap, subst, ◌∙◌}
use mathlib.Core.List.{List}
use native.Mathlib.Omega.{arith}
use Rattle.std.specs.Prelude.{min}
use lib.ListN.{length, get_or, set}
use lib.Seq.{get_or-set_same, get_or-set_other}
use Rattle.format.specs.Width.{tree_size}
use Rattle.format.specs.Part.{Part, same_part}
use Rattle.format.specs.Tables.{Mode}
use Rattle.format.specs.WordList.{word_of, raw_from, list_count}
use Rattle.format.specs.Writer.{find, raw_of}
use Rattle.format.proofs.Each.{true_false}
use Rattle.format.proofs.PartLaw.{same_part_lem}
use Rattle.places.specs.Key.{key_at, key_count, is_key, named}
use Rattle.places.specs.Index.{Loaded}
use Rattle.places.specs.Places.{below_root, Resolved, Whole}
use Rattle.places.specs.declared.key.Layout.TheVariants.{Parts, Symbols, Open, Close, Name}
use Rattle.places.specs.declared.whole.Indices.{Indices}
use Rattle.slots.proofs.Cases.{eq_or_ne}
use Rattle.places.proofs.IndexReturns.{unshifted}
use Rattle.places.proofs.TreeLaw.{tree_raw}

-- ---- a key's place

module _ (limit : ℕ) (parts symbols ps ss : List ℕ) (W : Whole limit parts symbols ps ss) where
  pub whole_parts : Loaded parts Parts 0 limit ps
  whole_parts = W.of_parts

  pub whole_symbols : Loaded symbols Symbols 0 (length symbols) ss
  whole_symbols = W.of_symbols

pub ruleset place_cases = (whole_parts, whole_symbols, unshifted)

-- two keys that are the same have one place
pub close_same : (key : ℕ → Part) (g : ℕ) (closing opening : Part) (b : Bool) (o : ℕ) → b ≡ same_part closing opening → b ≡ true
    → o ≡ find (is_key key opening) g 0 → o ≡ find (is_key key closing) g 0
close_same key g closing opening b o s t q =
    let e : closing ≡ opening = same_part_lem closing opening (sym s ∙ t) in
    q ∙ ap (λ (k : Part). find (is_key key k) g 0) (sym e)

-- the key of a tree that has it, any of one that has not
module _ (l : List ℕ) (n x : ℕ) (k : Part) where
  pub pick_open : x ≤ 2 → 2 < x → k ≡ key_at l Close n
  pick_open h g = absurd (omega arith)

  pub pick_close : k ≡ key_at l Close n → 2 < x → k ≡ key_at l Close n
  pick_close e g = e

  pub pick_name : k ≡ key_at l Name n → named x ≡ true → k ≡ key_at l Name n
  pick_name e g = e

  pub pick_other : (b : Bool) → b ≡ named x → b ≡ false → named x ≡ true → k ≡ key_at l Name n
  pick_other b e h g = true_false (named x) g (sym e ∙ h)

pub ruleset pick_cases = (pick_open, pick_close, pick_name, pick_other)

-- ---- a tree's indices

module _ (l : List ℕ) (n : ℕ) (h : n < list_count l) where
  pub open_inside : n < key_count l Open
  unfolding key_count
  open_inside = h

  pub close_inside : n < key_count l Close
  unfolding key_count
  close_inside = h

  pub name_inside : n < key_count l Name
  unfolding key_count
  name_inside = h

module _ (g : ℕ) (parts symbols l : List ℕ) (n : ℕ) where
  -- its sort as the code has read it
  head : word_of l n 0 ≡ get_or l (tree_size * n) 0
  head = let z : tree_size * n + 0 ≡ tree_size * n = omega arith in ap (λ (j : ℕ). get_or l j 0) z

  pub tree_found : 1 ≤ n → (opening closing name : Part) → opening ≡ key_at l Open n
      → (2 < get_or l (tree_size * n) 0 → closing ≡ key_at l Close n) → (named (get_or l (tree_size * n) 0) ≡ true → name ≡ key_at l Name n)
      → (o c y : ℕ) → o ≡ find (is_key (key_at parts Parts) opening) g 0 → c ≡ find (is_key (key_at parts Parts) closing) g 0
      → y ≡ find (is_key (key_at symbols Symbols) name) (length symbols) 0
      → raw_from o c y (word_of l n) ≡ raw_of (below_root g parts symbols) l n
  tree_found hn opening closing name eo ec ey o c y fo fc fy =
      tree_raw (below_root g parts symbols) l n o c y hn
      (fo ∙ ap (λ (k : Part). find (is_key (key_at parts Parts) k) g 0) eo)
      (λ v. fc ∙ ap (λ (k : Part). find (is_key (key_at parts Parts) k) g 0) (ec (subst (λ (x : ℕ). 2 < x) head v)))
      (λ v. fy ∙ ap (λ (k : Part). find (is_key (key_at symbols Symbols) k) (length symbols) 0) (ey (subst (λ (x : ℕ). named x ≡ true) head v)))

pub ruleset tree_indices_cases = (open_inside, close_inside, name_inside)

-- ---- all trees

module _ (M : Mode) (l : List ℕ) (from : ℕ) where
  module _ (opens closes syms : List ℕ) where
    pub resolved_none : Resolved M l from 0 opens closes syms
    resolved_none = record { at = λ j h. absurd (omega arith) }

    module _ (i : ℕ) (R : Resolved M l from i opens closes syms) where
      pub resolved_end : (m : ℕ) → min m (list_count l - from) ≤ i → Resolved M l from m opens closes syms
      resolved_end m h = record { at = λ j k q. R.at j (omega arith) q }

      pub resolved_more : (x : Indices) → raw_from x.opening x.closing x.symbol (word_of l (from + i)) ≡ raw_of M l (from + i)
          → i < length opens → i < length closes → i < length syms
          → Resolved M l from (i + 1) (set opens i x.opening) (set closes i x.closing) (set syms i x.symbol)
      resolved_more x t ho hc hs = record { at = λ j k q. ⊎_elim (λ e. here j e) (λ n. there j n k q) (eq_or_ne j i) }
        where
          tree : ℕ → ℕ → ℕ → ℕ → Type 0
          tree j a b c = raw_from a b c (word_of l (from + j)) ≡ raw_of M l (from + j)

          here : (j : ℕ) → j ≡ i → tree j (get_or (set opens i x.opening) j 0) (get_or (set closes i x.closing) j 0) (get_or (set syms i x.symbol) j 0)
          here j e = rw (e, get_or-set_same opens i x.opening 0 ho, get_or-set_same closes i x.closing 0 hc, get_or-set_same syms i x.symbol 0 hs) t

          there : (j : ℕ) → (j ≡ i → ⊥) → j < i + 1 → from + j < list_count l
              → tree j (get_or (set opens i x.opening) j 0) (get_or (set closes i x.closing) j 0) (get_or (set syms i x.symbol) j 0)
          there j n k q = rw (get_or-set_other opens i j x.opening 0 n, get_or-set_other closes i j x.closing 0 n, get_or-set_other syms i j x.symbol 0 n) (R.at j (omega arith) q)

pub ruleset resolve_whole_cases = (resolved_none, resolved_end, resolved_more)
