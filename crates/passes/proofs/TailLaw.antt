-- The writer's bytes tree by tree: each tree's bytes stand before those of the rest, and what rows 1 to 5 say of each tree.
use Prim.Native.Nat.{ℕ, zero, suc, ◌+◌, ◌*◌, ◌-◌, ◌≤◌, ◌<◌}
use mathlib.Core.Bool.{true}
use mathlib.Core.Path.{◌≡◌, refl, sym, ap, ◌∙◌}
use mathlib.Core.List.{List, [], ◌∷◌, ◌++◌, map, append_assoc, append-nil}
use native.Mathlib.Omega.{arith}
use native.Mathlib.Nat.{add-zero, zero-add}
use native.Mathlib.Numerals.{add-one}
use lib.ListN.{length, get_or, length-append}
use Rattle.format.specs.Tree.{Raw, punct, ident, literal, subtree, is_subtree, count_of}
use Rattle.format.specs.Fields.{fields}
use Rattle.format.specs.Write.{tree_bytes, suffixes, work_words}
use Rattle.format.specs.Tables.{Mode, mode_tables}
use Rattle.format.specs.WordList.{list_count}
use Rattle.format.specs.Writer.{raw_of, raws, packed_in}
use Rattle.format.proofs.WriteLaw.{Lawful, suffix_at, suffix_end}
use Rattle.format.proofs.WriteSize.{root_33, raws_length, mode_most}
use Rattle.format.proofs.TreeBack.{Writable}
use Rattle.format.proofs.WriterLaw.{Listed, mode_lawful}
use Rattle.encode.specs.Encode.{indices}
use Rattle.encode.proofs.EncodeUse.{punct_indices, ident_indices, literal_indices, subtree_indices}
use Rattle.passes.specs.Tail.{rest_of, size_from, kids_of, bytes_at, head_of}

-- a tree that stands where there is none
abbrev none : Raw
none = punct (record { index = 0; start = 0; len = 0 }) 0 0

module _ (M : Mode) (l : List ℕ) where
  -- ---- the trees

  raws_at : (j n i : ℕ) → i < j → get_or (raws M l j n) i none ≡ raw_of M l (n + i)
  unfolding raws
  raws_at zero n i h = absurd (omega arith)
  raws_at (suc j) n zero h = simp add-zero
  raws_at (suc j) n (suc i) h =
      let e : n + suc i ≡ n + 1 + i = omega arith in
      rw e (raws_at j (n + 1) i (omega arith))

  tree_at_lem : (n : ℕ) → n < list_count l → get_or (raws M l (list_count l) 0) n none ≡ raw_of M l n
  tree_at_lem n h = raws_at (list_count l) 0 n h ∙ ap (raw_of M l) (zero-add n)

  -- ---- the bytes from a tree on

  rest_at : (n m : ℕ) (t : Raw) → n < list_count l → get_or (raws M l (list_count l) 0) n none ≡ t → suc n ≡ m
      → rest_of M l n ≡ tree_bytes n t (size_from M l m - size_from M l (m + count_of t)) ++ rest_of M l m
  unfolding rest_of
  rest_at n m t h e f =
      let z = raws_length M l (list_count l) 0 in
      rw (← e, ← f) (rw (zero-add n) at (suffix_at none (raws M l (list_count l) 0) 0 n (omega arith)))

  pub rest_is : (n : ℕ) → n < list_count l → rest_of M l n ≡ bytes_at M l n ++ rest_of M l (n + 1)
  unfolding bytes_at kids_of
  rest_is n h = rest_at n (n + 1) (raw_of M l n) h (tree_at_lem n h) (omega arith)

  pub rest_end : rest_of M l (list_count l) ≡ []
  unfolding rest_of
  rest_end = ap (λ j. get_or (suffixes 0 (raws M l (list_count l) 0)) j []) (sym (raws_length M l (list_count l) 0)) ∙ suffix_end (raws M l (list_count l) 0) 0

  pub size_is : (n : ℕ) → n < list_count l → size_from M l n ≡ length (bytes_at M l n) + size_from M l (n + 1)
  size_is n h = ap length (rest_is n h) ∙ length-append (bytes_at M l n) (rest_of M l (n + 1))

  pub size_end : size_from M l (list_count l) ≡ 0
  size_end = ap length rest_end

  pub size_down : (n j : ℕ) → n + j ≤ list_count l → size_from M l (n + j) ≤ size_from M l n
  size_down n zero h = simp add-zero (omega arith)
  size_down n (suc j) h =
      let e : n + suc j ≡ n + j + 1 = omega arith in
      let a = size_down n j (omega arith) in
      let c = size_is (n + j) (omega arith) in
      rw e (omega arith)

  pub size_falls : (m n : ℕ) → m ≤ n → n ≤ list_count l → size_from M l n ≤ size_from M l m
  size_falls m n h k =
      let e : m + (n - m) ≡ n = omega arith in
      rw e at (size_down m (n - m) (omega arith))

  size_whole : size_from M l 0 ≤ 33 * list_count l
  unfolding rest_of
  size_whole = mode_most M l

  pub size_most : (n : ℕ) → n ≤ list_count l → size_from M l n ≤ 33 * list_count l
  size_most n h =
      let a = size_falls 0 n (omega arith) h in
      let b = size_whole in
      omega arith

  -- ---- the bytes before a tree

  pub head_more : (n : ℕ) → head_of M l (n + 1) ≡ head_of M l n ++ bytes_at M l n
  unfolding head_of
  head_more n = rw (add-one n)

  pub head_rest : (n : ℕ) → n ≤ list_count l → head_of M l n ++ rest_of M l n ≡ rest_of M l 0
  unfolding head_of
  head_rest zero h = refl
  head_rest (suc n) h =
      let e : rest_of M l n ≡ bytes_at M l n ++ rest_of M l (suc n) = rw (add-one n) at (rest_is n (omega arith)) in
      append_assoc (head_of M l n) (bytes_at M l n) (rest_of M l (suc n)) ∙ ap (λ x. head_of M l n ++ x) (sym e) ∙ head_rest n (omega arith)

  pub head_size : (n : ℕ) → n ≤ list_count l → length (head_of M l n) + size_from M l n ≡ size_from M l 0
  head_size n h = sym (length-append (head_of M l n) (rest_of M l n)) ∙ ap length (head_rest n h)

  pub head_whole : head_of M l (list_count l) ≡ packed_in M l
  unfolding rest_of
  head_whole =
      sym (append-nil (head_of M l (list_count l))) ∙ ap (λ x. head_of M l (list_count l) ++ x) (sym rest_end) ∙ head_rest (list_count l) (omega arith)

  -- ---- the work words

  lengths_at : (xs : List (List ℕ)) (i : ℕ) → get_or (map length xs) i 0 ≡ length (get_or xs i [])
  lengths_at [] i = refl
  lengths_at (x ∷ xs) zero = refl
  lengths_at (x ∷ xs) (suc i) = lengths_at xs i

  pub work_at : (n : ℕ) → get_or (work_words (raws M l (list_count l) 0)) n 0 ≡ size_from M l n
  unfolding rest_of
  work_at n = lengths_at (suffixes 0 (raws M l (list_count l) 0)) n

  -- ---- a list that rows 1 to 5 pass

  module _ (ok : Listed M l) where
    abbrev ruled : Lawful (mode_tables M) (raws M l (list_count l) 0) none
    ruled = mode_lawful M l ok

    some_trees_lem : 1 ≤ list_count l
    some_trees_lem = let a = ruled.some in let z = raws_length M l (list_count l) 0 in omega arith

    module _ (n : ℕ) (h : n < list_count l) where
      here : n < length (raws M l (list_count l) 0)
      here = let z = raws_length M l (list_count l) 0 in omega arith

      pub raw_fields : fields (raw_of M l n) ≡ true
      raw_fields = ap fields (sym (tree_at_lem n h)) ∙ ruled.in_range n here

      writable_indices : (t : Raw) → Writable t → indices t ≡ true
      writable_indices (punct s c x) w = punct_indices s w.0.index c x
      writable_indices (ident s i r) w = ident_indices s w.0.index i r w.2
      writable_indices (literal s i k r x) w = literal_indices s w.0.index i k r x w.1
      writable_indices (subtree s t m d) w = subtree_indices s w.0.index t m d w.1.index

      pub raw_indices : indices (raw_of M l n) ≡ true
      raw_indices = ap indices (sym (tree_at_lem n h)) ∙ writable_indices (get_or (raws M l (list_count l) 0) n none) (ruled.writable n here)

      -- a subtree ends within the list
      ends_in : (t : Raw) → get_or (raws M l (list_count l) 0) n none ≡ t → n + 1 + count_of t ≤ list_count l
      ends_in (punct s c x) e = omega arith
      ends_in (ident s i r) e = omega arith
      ends_in (literal s i k r x) e = omega arith
      ends_in (subtree s t m d) e =
          let i : is_subtree (get_or (raws M l (list_count l) 0) n none) ≡ true = ap is_subtree e in
          let c = ruled.counts n here i ∙ ap count_of e in
          let f = ruled.nested.in_list n here (ruled.sort n here ∙ i) in
          let z = raws_length M l (list_count l) 0 in
          omega arith

      pub raw_ends : n + 1 + count_of (raw_of M l n) ≤ list_count l
      raw_ends = ends_in (raw_of M l n) (tree_at_lem n h)

    pub root_subtree : is_subtree (raw_of M l 0) ≡ true
    root_subtree = ap is_subtree (sym (tree_at_lem 0 some_trees_lem)) ∙ sym (ruled.sort 0 ruled.some) ∙ ruled.rooted

    pub root_size : length (bytes_at M l 0) ≡ 33
    unfolding bytes_at
    root_size = root_33 (raw_of M l 0) (kids_of M l 0) root_subtree
