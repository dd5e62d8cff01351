-- The bytes: one law for each return and each turn of a loop of src/bytes.rt.
use Prim.Native.Nat.{ℕ, ◌+◌, ◌*◌, ◌-◌, ◌≤◌, ◌<◌}
use mathlib.Core.Bool.{Bool, true, false}
use mathlib.Core.Path.{◌≡◌, refl, sym, ap, ◌∙◌}
use mathlib.Core.List.{List}
use native.Mathlib.Omega.{arith}
use native.Mathlib.Nat.{zero-add}
use borrow.Author.Tests.{le-leb}
use lib.Dec.{eqb}
use lib.ListN.{length, get_or}
use Rattle.std.specs.Prelude.{Result}
use Rattle.format.specs.Verdict.{passed}
use Rattle.format.specs.Word.{put}
use Rattle.format.specs.Tree.{Raw, subtree, is_subtree, count_of}
use Rattle.format.specs.Fields.{fields}
use Rattle.format.specs.Write.{tree_bytes}
use Rattle.format.specs.Width.{part_size, open_at, close_at, tree_size}
use Rattle.format.specs.Part.{span_from, indexed}
use Rattle.format.specs.Tables.{Mode}
use Rattle.format.specs.WordList.{word_of, raw_from, list_count}
use Rattle.format.specs.Writer.{raw_of}
use Rattle.format.specs.Builder.{holding_all}
use Rattle.format.proofs.Holding.{holding_other}
use Rattle.format.proofs.Each.{true_false}
use Rattle.pack.specs.Answer.{span_of}
use Rattle.pack.proofs.Store.{put_put, put_none}
use Rattle.encode.specs.Encode.{indices, pack_tree, TreePacked}
use Rattle.tree.specs.declared.raw.RawSubtree.{RawSubtree}
use Rattle.tree.specs.declared.raw.ChildrenBytes.{ChildrenBytes}
use Rattle.encode.proofs.EncodeUse.{below_root_lem, encoded_contents}
use Rattle.passes.specs.Tail.{size_from, kids_of, bytes_at, head_of}
use Rattle.passes.specs.Run.{Run, children_in, Spanned, Falls, Sized, root_of, Advanced}
use Rattle.passes.specs.Passed.{Passed}
use Rattle.passes.proofs.TailLaw.{size_is, size_falls, size_end, head_size, head_more, raw_fields, raw_indices, root_subtree}
use Rattle.passes.proofs.HoldLaw.{some_trees_lem, most_trees_lem, held_count, held_root, listed, low_bytes, low_fields, low_indices, hold_size, held_sized}
use Rattle.passes.proofs.RunLaw.{run_tree, run_cases, ready_roomy, ready_indexed, run_part}
use Rattle.passes.proofs.SizesReturns.{spanned, children_are, sized_down}

-- ---- the root's words

-- a tree by its words that is a subtree
subtree_is : (a b d : ℕ) (u : ℕ → ℕ) → is_subtree (raw_from a b d u) ≡ true
    → subtree (indexed a (span_from u open_at)) (indexed b (span_from u close_at)) (u 1) (u 2) ≡ raw_from a b d u
unfolding raw_from
subtree_is a b d u h = go (eqb (u 0) 0) (eqb (u 0) 1) (eqb (u 0) 2) refl refl refl
  where
    go : (x₀ x₁ x₂ : Bool) → eqb (u 0) 0 ≡ x₀ → eqb (u 0) 1 ≡ x₁ → eqb (u 0) 2 ≡ x₂
        → subtree (indexed a (span_from u open_at)) (indexed b (span_from u close_at)) (u 1) (u 2) ≡ raw_from a b d u
    go true x₁ x₂ e₀ e₁ e₂ = true_false false (simp e₀ at h) refl
    go false true x₂ e₀ e₁ e₂ = true_false false (simp (e₀, e₁) at h) refl
    go false false true e₀ e₁ e₂ = true_false false (simp (e₀, e₁, e₂) at h) refl
    go false false false e₀ e₁ e₂ = simp (e₀, e₁, e₂)

-- … where another count and the words of another list say the same
subtree_by : (a b d : ℕ) (u w : ℕ → ℕ) (n : ℕ) → is_subtree (raw_from a b d u) ≡ true → ((j : ℕ) → (j ≡ 1 → ⊥) → u j ≡ w j) → u 1 ≡ n
    → subtree (indexed a (span_from w open_at)) (indexed b (span_from w close_at)) n (w 2) ≡ raw_from a b d u
subtree_by a b d u w n h same e =
    let o₀ = same (open_at + part_size) (λ q. absurd (omega arith)) in
    let o₁ = same (open_at + part_size + 1) (λ q. absurd (omega arith)) in
    let c₀ = same (close_at + part_size) (λ q. absurd (omega arith)) in
    let c₁ = same (close_at + part_size + 1) (λ q. absurd (omega arith)) in
    let k = same 2 (λ q. absurd (omega arith)) in
    rw (← o₀, ← o₁, ← c₀, ← c₁, ← e, ← k) (subtree_is a b d u h)

-- ---- the output up to a tree

module _ (M : Mode) (l : List ℕ) where
  pub advanced_next : (a b c : ℕ) (out out₁ out₂ : List ℕ) → Advanced M l a b out out₁ → Advanced M l b c out₁ out₂ → Advanced M l a c out out₂
  advanced_next a b c out out₁ out₂ x y = record { goes = λ d h e. y.goes d h (x.goes d h e) }

  -- one more tree
  advance : (n at : ℕ) (out out' : List ℕ) → n < list_count l → at ≡ length (head_of M l n) → out' ≡ put out at (bytes_at M l n) → Advanced M l n (n + 1) out out'
  advance n at out out' h e f = record { goes = λ b g x. step b g x }
    where
      step : (b : List ℕ) → size_from M l 0 ≤ length b → out ≡ put b 0 (head_of M l n) → out' ≡ put b 0 (head_of M l (n + 1))
      step b g x =
          let i = head_size M l n (omega arith) in
          let j = size_is M l n h in
          f ∙ rw (x, e) (ap (λ a. put (put b 0 (head_of M l n)) a (bytes_at M l n)) (sym (zero-add (length (head_of M l n)))) ∙
          put_put b 0 (length (head_of M l n)) (head_of M l n) (bytes_at M l n) refl (omega arith) ∙ ap (put b 0) (sym (head_more M l n)))

  -- from nothing
  advanced_first : (n : ℕ) (out out' : List ℕ) → Advanced M l 0 n out out' → size_from M l 0 ≤ length out → out' ≡ put out 0 (head_of M l n)
  unfolding head_of
  advanced_first n out out' a h = a.goes out h (sym (put_none out 0))

-- ---- the work words say where each tree begins, whatever count the root has stored

module _ (M : Mode) (l : List ℕ) (ok : Passed M l) (work : List ℕ) (w : Sized M l 0 work) where
  held : Sized M (holding_all l) 0 work
  held = held_sized M l ok work w

  module _ (n : ℕ) (h : n < list_count l) where
    in_held : n < list_count (holding_all l)
    in_held = let c = held_count M l ok in omega arith

    begins : get_or work 0 0 - get_or work n 0 ≡ length (head_of M (holding_all l) n)
    begins =
        let i = in_held in
        let a = held.at 0 (omega arith) (omega arith) in
        let b = held.at n (omega arith) (omega arith) in
        let c = head_size M (holding_all l) n (omega arith) in
        omega arith

    room_for : (out : List ℕ) → size_from M l 0 ≤ length out → length (head_of M (holding_all l) n) + length (bytes_at M (holding_all l) n) ≤ length out
    room_for out g =
        let i = in_held in
        let c = head_size M (holding_all l) n (omega arith) in
        let d = size_is M (holding_all l) n i in
        let e = hold_size M l ok 0 in
        omega arith

    pub tree_falls : Falls work n
    tree_falls =
        let a = w.at 0 (omega arith) (omega arith) in
        let b = w.at n (omega arith) (omega arith) in
        let c = size_falls M l 0 n (omega arith) (omega arith) in
        let d = w.room in
        record { room = omega arith; falls = omega arith }

    -- … below the root
    module _ (m : 1 ≤ n) where
      words : Sized M l (n + 1) work
      words = sized_down M l (n + 1) 0 work w (omega arith)

      pub tree_spanned : Spanned l n work
      tree_spanned = spanned M l ok n m work words h

      -- … with its indices
      module _ (t : Raw) (e : t ≡ raw_of M l n) (k : ChildrenBytes) (f : k ≡ record { 0 = children_in l n work }) (at : ℕ) (d : at ≡ get_or work 0 0 - get_or work n 0) (out : List ℕ) where
        bytes_are : tree_bytes 1 t k.0 ≡ bytes_at M (holding_all l) n
        unfolding bytes_at
        bytes_are =
            let c : k.0 ≡ kids_of M l n = ap (λ (z : ChildrenBytes). z.0) f ∙ children_are M l ok n m work words h in
            let b : tree_bytes 1 t k.0 ≡ bytes_at M l n = rw (e, c) (sym (below_root_lem n (raw_of M l n) (kids_of M l n) (λ q. absurd (omega arith)))) in
            b ∙ sym (low_bytes M l (some_trees_lem M l ok) n m)

        pub tree_ready : size_from M l 0 ≤ length out → pack_tree out at 1 t k.0 ≡ passed
        unfolding pack_tree
        tree_ready g =
            let a = begins in
            let b = ap length bytes_are in
            let c = room_for out g in
            let r : at + length (tree_bytes 1 t k.0) ≤ length out = omega arith in
            let i : fields t ≡ true = ap fields e ∙ low_fields M l ok n m h in
            let j : indices t ≡ true = ap indices e ∙ low_indices M l ok n m h in
            simp (i, j, le-leb _ _ r)

        pub tree_advances : (out' : List ℕ) → out' ≡ put out at (tree_bytes 1 t k.0) → Advanced M (holding_all l) n (n + 1) out out'
        tree_advances out' g = advance M (holding_all l) n at out out' in_held (d ∙ begins) (g ∙ ap (put out at) bytes_are)

  -- ---- the root

  pub root_some : 1 ≤ list_count l
  root_some = some_trees_lem M l ok

  pub root_most : list_count l ≤ 1048576
  root_most = most_trees_lem M l ok

  pub root_index : M.root ≤ 2097152
  root_index = ok.within.most_root

  pub root_word : 1 < length work
  root_word = let a = root_some in let b = w.room in omega arith

  root_is : subtree (span_of (root_of l M.root).opening) (span_of (root_of l M.root).closing) (root_of l M.root).len.0 (root_of l M.root).kind
      ≡ raw_of M (holding_all l) 0
  root_is =
      subtree_by M.root (M.root + 1) 0 (word_of (holding_all l) 0) (word_of l 0) (list_count l - 1) (root_subtree M (holding_all l) (listed M l ok))
      (λ j f. holding_other l (tree_size * 0 + j) (λ q. f (word_zero j ∙ q))) (held_root M l ok)
    where
      word_zero : (j : ℕ) → j ≡ tree_size * 0 + j
      word_zero j = omega arith

  -- all other bytes are its children's
  root_kids : get_or work 1 0 ≡ kids_of M (holding_all l) 0
  unfolding kids_of
  root_kids =
      let one = root_some in
      let c = held_count M l ok in
      let a : count_of (raw_of M (holding_all l) 0) ≡ list_count l - 1 = ap count_of (sym root_is) in
      let b : 0 + 1 + count_of (raw_of M (holding_all l) 0) ≡ list_count (holding_all l) = omega arith in
      let d = ap (size_from M (holding_all l)) b ∙ size_end M (holding_all l) in
      let e = held.at 1 (omega arith) (omega arith) in
      omega arith

  pub root_advances : (q : RawSubtree) → q ≡ root_of l M.root → (out : List ℕ) → size_from M l 0 ≤ length out → (r : Result ℕ ℕ) (out' : List ℕ)
      → TreePacked out 0 0 (subtree (span_of q.opening) (span_of q.closing) q.len.0 q.kind) (get_or work 1 0) r out' → Advanced M (holding_all l) 0 1 out out'
  unfolding head_of bytes_at
  root_advances q e out h r out' t =
      let one = root_some in
      let i = in_held 0 one in
      let t' : TreePacked out 0 0 (raw_of M (holding_all l) 0) (kids_of M (holding_all l) 0) r out' = rw root_kids at (rw root_is at (rw e at t)) in
      let g = room_for 0 one out h in
      advance M (holding_all l) 0 0 out out' i refl (encoded_contents out 0 0 (raw_of M (holding_all l) 0) (kids_of M (holding_all l) 0) r out' t'
      (raw_fields M (holding_all l) (listed M l ok) 0 i) (raw_indices M (holding_all l) (listed M l ok) 0 i) g)

pub run_ends : (M : Mode) (l : List ℕ) (from stop n : ℕ) (out out' : List ℕ) → Advanced M l from n out out' → n ≤ stop → stop ≤ n → Advanced M l from stop out out'
run_ends M l from stop n out out' a h k = let e : n ≡ stop = omega arith in rw e at a

pub run_inside : (M : Mode) (l : List ℕ) (from stop n : ℕ) (os cs ys : List ℕ) → Run M l from stop os cs ys → n < stop → n < list_count l
run_inside M l from stop n os cs ys r h = let a = r.last in omega arith

pub still_room : (n : ℕ) (out out' : List ℕ) → n ≤ length out → length out' ≡ length out → n ≤ length out'
still_room n out out' h e = omega arith

pub ruleset put_at_cases = (tree_falls, tree_spanned, tree_ready, tree_advances)

pub ruleset put_root_cases = (root_some, root_most, root_index, root_word, root_advances)

pub put_nothing : (M : Mode) (l : List ℕ) (count : ℕ) (out : List ℕ) → count ≡ 0 → out ≡ put out 0 (head_of M l count)
unfolding head_of
put_nothing M l count out e = sym (put_none out 0) ∙ rw e

pub put_first : (M : Mode) (l : List ℕ) → Passed M l → (count : ℕ) (out out₁ out₂ : List ℕ) → Advanced M (holding_all l) 0 1 out out₁ → Advanced M (holding_all l) 1 count out₁ out₂
    → size_from M l 0 ≤ length out → out₂ ≡ put out 0 (head_of M (holding_all l) count)
put_first M l ok count out out₁ out₂ a b h =
    let e = hold_size M l ok 0 in
    advanced_first M (holding_all l) count out out₂ (advanced_next M (holding_all l) 0 1 count out out₁ out₂ a b) (omega arith)

pub some_count : (count : ℕ) → (count ≡ 0 → ⊥) → 1 ≤ count
some_count count h = omega arith

pub ruleset put_list_cases = (some_count, put_nothing, put_first, still_room)

pub ruleset put_once_cases = (put_list_cases, run_part)
