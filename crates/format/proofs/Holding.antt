-- A list with its root taken to hold all others: what the writer's rows and bytes say of it can be read off the list as it stands.
use Prim.Native.Nat.{ℕ, zero, suc, ◌+◌, ◌*◌, ◌-◌, ◌/◌, ◌≤◌}
use mathlib.Core.Bool.{Bool, true, false, ◌&&◌}
use mathlib.Core.Path.{◌≡◌, refl, sym, ap, ◌∙◌}
use mathlib.Core.List.{List, [], ◌∷◌}
use native.Mathlib.Omega.{arith}
use borrow.Author.Tests.{le-ltb, eq-eqb, ne_eqb, eqb-true, eqb-false}
use lib.Dec.{eqb, leb}
use lib.ListN.{length, get_or, set, length-set}
use lib.Seq.{get_or-set_same, get_or-set_other, set-get_or}
use Rattle.std.specs.Prelude.{if◌then◌else◌}
use Rattle.format.specs.Verdict.{Verdict, passed, refused, rule, each_from, each}
use Rattle.format.specs.Plain.{end_of, sub}
use Rattle.format.specs.Nest.{still_open, nest_from, rooted, nest}
use Rattle.format.specs.Buffer.{word_shape}
use Rattle.format.specs.Tables.{Mode, limits, indexed_below, own_tables}
use Rattle.format.specs.WordList.{word_of, raw_from, word_fields, list_count, given, list_sized, row_two, list_rules}
use Rattle.format.specs.Writer.{part_index, symbol_index, raw_of, raws, present, row_five, list_verdict}
use Rattle.format.specs.Width.{open_at, close_at, tree_size}
use Rattle.format.specs.Part.{part_from, same_part, part_at, span_from, indexed}
use Rattle.format.specs.Fields.{span_fits}
use Rattle.format.specs.Builder.{holding_all}
use Rattle.format.proofs.Each.{and_right, both, refused_not}
use Rattle.format.proofs.PartLaw.{from_same}
use Rattle.format.proofs.WriterRefusal.{list_sound, rules_complete}

module _ (l : List ℕ) where
  pub holding_length : length (holding_all l) ≡ length l
  unfolding holding_all
  holding_length = go (eqb (get_or l 0 0) 3)
    where
      go : (x : Bool) → length (if x then set l 1 (list_count l - 1) else l) ≡ length l
      go true = length-set l 1 (list_count l - 1)
      go false = refl

  pub holding_count : list_count (holding_all l) ≡ list_count l
  holding_count = ap (λ n. n / tree_size) holding_length

  -- ---- the words

  pub holding_other : (i : ℕ) → (i ≡ 1 → ⊥) → get_or (holding_all l) i 0 ≡ get_or l i 0
  unfolding holding_all
  holding_other i f = go (eqb (get_or l 0 0) 3)
    where
      go : (x : Bool) → get_or (if x then set l 1 (list_count l - 1) else l) i 0 ≡ get_or l i 0
      go true = get_or-set_other l 1 i (list_count l - 1) 0 f
      go false = refl

  -- where tree 0 is no subtree, it is the list itself
  pub holding_leaf : (get_or l 0 0 ≡ 3 → ⊥) → holding_all l ≡ l
  unfolding holding_all
  holding_leaf h = let a = ne_eqb (get_or l 0 0) 3 h in simp a

  -- … and where the stored count is right
  pub holding_same : get_or l 1 0 ≡ list_count l - 1 → holding_all l ≡ l
  unfolding holding_all
  holding_same e = go (eqb (get_or l 0 0) 3)
    where
      go : (x : Bool) → (if x then set l 1 (list_count l - 1) else l) ≡ l
      go true = ap (set l 1) (sym e) ∙ set-get_or l 1 0
      go false = refl

  not_one : (n j : ℕ) → 1 ≤ n → tree_size * n + j ≡ 1 → ⊥
  not_one n j h e = omega arith

  -- of every tree but the root
  pub holding_words : (n : ℕ) → 1 ≤ n → word_of (holding_all l) n ≡ word_of l n
  holding_words n h = λ i j. holding_other (tree_size * n + j) (not_one n j h) i

  -- of the root's spans
  holding_span : (k : ℕ) → 2 ≤ k → span_from (word_of (holding_all l) 0) k ≡ span_from (word_of l 0) k
  holding_span k h = from_same (word_of (holding_all l) 0) (word_of l 0) k (λ j g. holding_other (tree_size * 0 + j) (λ e. omega arith))

  -- ---- row 5 and the trees with their indices

  module _ (M : Mode) where
    pub holding_raw : (n : ℕ) → 1 ≤ n → raw_of M (holding_all l) n ≡ raw_of M l n
    holding_raw n h =
        ap (λ (w : ℕ → ℕ). if eqb n 0 then raw_from M.root (M.root + 1) 0 w else
        raw_from (part_index M (part_from w open_at)) (part_index M (part_from w close_at)) (symbol_index M (w 1)) w) (holding_words n h)

    pub holding_raws : (j n : ℕ) → 1 ≤ n → raws M (holding_all l) j n ≡ raws M l j n
    unfolding raws
    holding_raws zero n h = refl
    holding_raws (suc j) n h = rw (holding_raw n h, holding_raws j (n + 1) (omega arith))

    pub holding_present : (n : ℕ) → present M (holding_all l) n ≡ present M l n
    holding_present zero =
        let o = holding_span open_at (omega arith) in
        let c = holding_span close_at (omega arith) in
        λ i. same_part (part_at M.pair 0) (o i).part && same_part (part_at M.pair 1) (c i).part
    holding_present (suc n) =
        let e : eqb (suc n) 0 ≡ false = ne_eqb (suc n) 0 (λ q. absurd (omega arith)) in
        simp e (ap (λ (w : ℕ → ℕ). indexed_below (limits M)
        (raw_from (part_index M (part_from w open_at)) (part_index M (part_from w close_at)) (symbol_index M (w 1)) w)) (holding_words (suc n) (omega arith)))

    pub holding_five : (j n : ℕ) → each_from (row_five M (holding_all l)) j n ≡ each_from (row_five M l) j n
    holding_five j n = ap (λ (f : ℕ → Verdict). each_from f j n) (λ i m. rule (holding_present m i) 5 m)

  -- ---- rows 2 to 4

  pub holding_fields : (n : ℕ) → word_fields (word_of (holding_all l) n) ≡ word_fields (word_of l n)
  unfolding raw_from
  holding_fields zero = go (eqb (get_or l 0 0) 3) refl
    where
      go : (x : Bool) → eqb (get_or l 0 0) 3 ≡ x → word_fields (word_of (holding_all l) 0) ≡ word_fields (word_of l 0)
      go true t =
          let root = eqb-true (get_or l 0 0) 3 t in
          let e₀ = holding_other 0 (λ e. absurd (omega arith)) in
          let e₂ = holding_other 2 (λ e. absurd (omega arith)) in
          let o = holding_span open_at (omega arith) in
          let c = holding_span close_at (omega arith) in
          rw (e₀, root) (λ i. (span_fits (indexed 0 (o i)) && span_fits (indexed 0 (c i)) && leb (e₂ i) 3) && true)
      go false t = ap (λ m. word_fields (word_of m 0)) (holding_leaf (eqb-false (get_or l 0 0) 3 t))
  holding_fields (suc n) = ap word_fields (holding_words (suc n) (omega arith))

  pub holding_two : each (row_two (holding_all l)) (list_count (holding_all l)) ≡ each (row_two l) (list_count l)
  holding_two = λ i. each (λ m. rule (holding_fields m i) 2 m) (holding_count i)

  -- below the root, under any ends
  pub holding_below : (j n : ℕ) (es : List ℕ) → 1 ≤ n → nest_from word_shape (given (holding_all l)) j n es ≡ nest_from word_shape (given l) j n es
  unfolding nest_from
  holding_below zero n es h = refl
  holding_below (suc j) n es h =
      let w₀ = holding_other (tree_size * n + 0) (not_one n 0 h) in
      let w₁ = holding_other (tree_size * n + 1) (not_one n 1 h) in
      let c = holding_length in
      let e₁ = holding_below j (n + 1) (end_of word_shape (given l) n ∷ still_open n es) (omega arith) in
      let e₂ = holding_below j (n + 1) (still_open n es) (omega arith) in
      rw (w₀, w₁, c, e₁, e₂)

  -- ---- where tree 0 is a subtree

  module _ (some : 1 ≤ list_count l) (root : get_or l 0 0 ≡ 3) where
    root_there : get_or (holding_all l) 0 0 ≡ 3
    root_there = holding_other 0 (λ e. absurd (omega arith)) ∙ root

    holding_root : get_or (holding_all l) 1 0 ≡ list_count l - 1
    unfolding holding_all
    holding_root = let a = eq-eqb (get_or l 0 0) 3 root in simp a (get_or-set_same l 1 (list_count l - 1) 0 (omega arith))

    root_end : end_of word_shape (given (holding_all l)) 0 ≡ list_count l
    root_end = let e = holding_root in rw e (omega arith)

    root_sub : sub word_shape (given (holding_all l)) 0 ≡ true
    root_sub = let e = root_there in rw e

    -- the root passes, and all others are to lie in it
    root_first : (j : ℕ) → nest_from word_shape (given (holding_all l)) (suc j) 0 [] ≡ nest_from word_shape (given (holding_all l)) j 1 (list_count l ∷ [])
    unfolding nest_from still_open
    root_first j =
        let s = root_sub in
        let e = root_end in
        let c = holding_count in
        let y = le-ltb (list_count (holding_all l)) (end_of word_shape (given (holding_all l)) 0) (omega arith) in
        simp (s, y) (ap (λ m. nest_from word_shape (given (holding_all l)) j 1 (m ∷ [])) e)

    pub holding_nest : nest word_shape (given (holding_all l)) ≡ nest_from word_shape (given l) (list_count l - 1) 1 (list_count l ∷ [])
    holding_nest =
        let s = root_sub in
        let e = root_end in
        let c = holding_count in
        let k : list_count (holding_all l) ≡ suc (list_count l - 1) = omega arith in
        let x = eq-eqb (end_of word_shape (given (holding_all l)) 0) (list_count (holding_all l)) (e ∙ sym c) in
        simp (s, x) (ap (λ m. nest_from word_shape (given (holding_all l)) m 0 []) k ∙ root_first (list_count l - 1) ∙ holding_below (list_count l - 1) 1 (list_count l ∷ []) (omega arith))

-- a list that rows 2 to 4 pass: its root holds all others
pub passed_root : (l : List ℕ) → list_rules l ≡ passed → get_or l 1 0 ≡ list_count l - 1
unfolding list_rules
passed_root l e =
    let a = both (each (row_two l) (list_count l)) (nest word_shape (given l)) e in
    let b = rooted_is (rooted word_shape (given l)) (nest_from word_shape (given l) (list_count l) 0 []) a.1 in
    let c = eqb-true _ _ (and_right (sub word_shape (given l) 0) (eqb (end_of word_shape (given l) 0) (list_count l)) b) in
    sum (get_or l 1 0) (list_count l) c
  where
    rooted_is : (x : Bool) (v : Verdict) → (if x then v else refused 3 0) ≡ passed → x ≡ true
    rooted_is true v e = refl
    rooted_is false v e = refused_not 3 0 e

    sum : (a k : ℕ) → 0 + 1 + a ≡ k → a ≡ k - 1
    sum a k e = omega arith

-- a list that rows 1 to 5 pass: rows 1 to 4 are silent, and its root holds all others as it says
pub lawful_holding : (parts symbols l : List ℕ) → list_verdict parts symbols l ≡ passed
    → ((list_sized l && (own_tables parts symbols).sized) ≡ true) × (list_rules l ≡ passed) × (holding_all l ≡ l)
lawful_holding parts symbols l ok =
    let a = list_sound parts symbols l ok in
    let r = rules_complete l a.ruled in
    (a.sized, r, holding_same l (passed_root l r))
