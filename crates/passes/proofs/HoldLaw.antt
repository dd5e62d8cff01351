-- The trees below the root, whatever count the root has stored: what a list that rows 1 to 5 pass says of them, and that no size turns on that count.
use Prim.Native.Nat.{ℕ, zero, suc, ◌+◌, ◌-◌, ◌≤◌, ◌<◌}
use mathlib.Core.Bool.{Bool, true, false}
use mathlib.Core.Path.{◌≡◌, refl, sym, ap, ◌∙◌}
use mathlib.Core.List.{List, []}
use native.Mathlib.Omega.{arith}
use lib.Dec.{eqb}
use lib.ListN.{length, get_or}
use Rattle.format.specs.Verdict.{each}
use Rattle.format.specs.Tree.{is_subtree, count_of}
use Rattle.format.specs.Fields.{fields}
use Rattle.format.specs.Write.{suffixes}
use Rattle.format.specs.Tables.{Mode}
use Rattle.format.specs.WordList.{word_of, raw_from, list_count, list_rules, given, row_two}
use Rattle.format.specs.Writer.{raw_of, raws}
use Rattle.format.specs.Builder.{holding_all}
use Rattle.format.specs.Nest.{nest}
use Rattle.format.specs.Buffer.{word_shape}
use Rattle.format.proofs.Each.{both}
use Rattle.format.proofs.WriterLaw.{Listed}
use Rattle.format.proofs.Holding.{holding_count, holding_other, holding_raw, holding_raws, passed_root}
use Rattle.encode.specs.Encode.{indices}
use Rattle.passes.specs.Tail.{rest_of, size_from, kids_of, bytes_at}
use Rattle.passes.specs.Run.{Sized}
use Rattle.passes.specs.Passed.{Passed}
use Rattle.passes.proofs.TailLaw.{size_is, raw_fields, raw_indices, raw_ends, root_subtree, root_size}
use Rattle.format.proofs.WriteSize.{root_33}

-- the bytes from tree 1 on do not turn on the root
tail_of : (M : Mode) (q : List ℕ) (j m : ℕ) → list_count q ≡ suc j → rest_of M q (suc m) ≡ get_or (suffixes (0 + 1) (raws M q j (0 + 1))) m []
unfolding rest_of raws suffixes
tail_of M q j m e = rw e

-- word 0 decides whether a tree is a subtree
same_sort : (o c y : ℕ) (u w : ℕ → ℕ) → u 0 ≡ w 0 → is_subtree (raw_from o c y u) ≡ is_subtree (raw_from o c y w)
unfolding raw_from
same_sort o c y u w e = go (eqb (w 0) 0) (eqb (w 0) 1) (eqb (w 0) 2) refl refl refl
  where
    go : (x₀ x₁ x₂ : Bool) → eqb (w 0) 0 ≡ x₀ → eqb (w 0) 1 ≡ x₁ → eqb (w 0) 2 ≡ x₂ → is_subtree (raw_from o c y u) ≡ is_subtree (raw_from o c y w)
    go true x₁ x₂ e₀ e₁ e₂ = simp (e, e₀)
    go false true x₂ e₀ e₁ e₂ = simp (e, e₀, e₁)
    go false false true e₀ e₁ e₂ = simp (e, e₀, e₁, e₂)
    go false false false e₀ e₁ e₂ = simp (e, e₀, e₁, e₂)

module _ (M : Mode) (l : List ℕ) (some : 1 ≤ list_count l) where
  hold_rest : (n : ℕ) → 1 ≤ n → rest_of M (holding_all l) n ≡ rest_of M l n
  hold_rest zero h = absurd (omega arith)
  hold_rest (suc m) h =
      let c = holding_count l in
      let j : ℕ = list_count l - 1 in
      tail_of M (holding_all l) j m (omega arith) ∙ ap (λ ts. get_or (suffixes (0 + 1) ts) m []) (holding_raws l M j (0 + 1) (omega arith)) ∙ sym (tail_of M l j m (omega arith))

  pub low_size : (n : ℕ) → 1 ≤ n → size_from M (holding_all l) n ≡ size_from M l n
  low_size n h = ap length (hold_rest n h)

  pub low_bytes : (n : ℕ) → 1 ≤ n → bytes_at M (holding_all l) n ≡ bytes_at M l n
  unfolding bytes_at kids_of
  low_bytes n h =
      let r = holding_raw l M n h in
      let a = low_size (n + 1) (omega arith) in
      let b = low_size (n + 1 + count_of (raw_of M l n)) (omega arith) in
      rw (r, a, b)

module _ (M : Mode) (l : List ℕ) (ok : Passed M l) where
  pub some_trees_lem : 1 ≤ list_count l
  some_trees_lem = ok.within.some_trees

  pub most_trees_lem : list_count l ≤ 1048576
  most_trees_lem = ok.within.most_trees

  pub held_count : list_count (holding_all l) ≡ list_count l
  held_count = holding_count l

  -- the root's count, which rows 3 and 4 have asked for
  pub held_root : get_or (holding_all l) 1 0 ≡ list_count l - 1
  held_root = passed_root (holding_all l) ok.rules ∙ ap (λ n. n - 1) held_count

  -- what the writer's laws ask of the list
  pub listed : Listed M (holding_all l)
  unfolding list_rules
  listed =
      let c = held_count in
      let w = ok.within in
      let a = w.some_trees in
      let b = w.most_trees in
      let p = w.most_parts in
      let r = w.most_root in
      let y = w.most_symbols in
      let v = both (each (row_two (holding_all l)) (list_count (holding_all l))) (nest word_shape (given (holding_all l))) ok.rules in
      record {
        some = omega arith;
        many = omega arith;
        tables = w.sized;
        packs = record { parts = omega arith; root = omega arith; symbols = omega arith };
        fields = v.0;
        nested = v.1;
        present = ok.present;
      }

  -- ---- a tree below the root

  module _ (n : ℕ) (m : 1 ≤ n) (h : n < list_count l) where
    same : raw_of M (holding_all l) n ≡ raw_of M l n
    same = holding_raw l M n m

    in_held : n < list_count (holding_all l)
    in_held = let c = held_count in omega arith

    pub low_fields : fields (raw_of M l n) ≡ true
    low_fields = ap fields (sym same) ∙ raw_fields M (holding_all l) listed n in_held

    pub low_indices : indices (raw_of M l n) ≡ true
    low_indices = ap indices (sym same) ∙ raw_indices M (holding_all l) listed n in_held

    pub low_ends : n + 1 + count_of (raw_of M l n) ≤ list_count l
    low_ends =
        let c = held_count in
        let e = ap count_of same in
        let a = raw_ends M (holding_all l) listed n in_held in
        omega arith

  -- ---- sizes

  pub top_size : length (bytes_at M l 0) ≡ 33
  unfolding bytes_at
  top_size =
      root_33 (raw_of M l 0) (kids_of M l 0)
      (sym (same_sort _ _ _ (word_of (holding_all l) 0) (word_of l 0) (holding_other l 0 (λ e. absurd (omega arith)))) ∙ root_subtree M (holding_all l) listed)

  pub hold_size : (n : ℕ) → size_from M (holding_all l) n ≡ size_from M l n
  hold_size zero =
      let c = held_count in
      let a = some_trees_lem in
      let d = size_is M (holding_all l) 0 (omega arith) in
      let e = size_is M l 0 (omega arith) in
      let f = root_size M (holding_all l) listed in
      let g = top_size in
      let i = low_size M l some_trees_lem (0 + 1) (omega arith) in
      omega arith
  hold_size (suc n) = low_size M l some_trees_lem (suc n) (omega arith)

  pub held_sized : (work : List ℕ) → Sized M l 0 work → Sized M (holding_all l) 0 work
  held_sized work w =
      let c = held_count in
      let a = w.room in
      record { room = omega arith; at = λ i g k. w.at i g (omega arith) ∙ sym (hold_size i) }
