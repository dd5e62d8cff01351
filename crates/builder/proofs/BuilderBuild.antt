-- What the builder builds: the writer's buffer of the plain model's list, and that list passes rows 1 to 4.
use Prim.Native.Nat.{ℕ, zero, suc, ◌+◌, ◌*◌, ◌-◌, ◌%◌, ◌≤◌, ◌<◌}
use mathlib.Core.Bool.{Bool, true, false}
use mathlib.Core.Path.{◌≡◌, refl, sym, ap, ◌∙◌, subst}
use mathlib.Core.List.{List, [], ◌∷◌, ◌++◌, append-nil}
use native.Mathlib.Omega.{arith}
use borrow.Author.Tests.{le-leb, lt-leb, eq-eqb, eqb-true}
use lib.Dec.{eqb}
use lib.ListN.{length, take, drop, get_or}
use Rattle.format.specs.Tables.{own_mode, own_tables}
use Rattle.format.specs.WordList.{tree_list, word_of, word_fields, list_count, given, list_sized, row_two, list_rules, list_rows}
use Rattle.format.specs.Width.{tree_size}
use Rattle.format.specs.Part.{WordSpan, span_list}
use Rattle.std.specs.Prelude.{if◌then◌else◌}
use Rattle.format.specs.Verdict.{passed, ◌and_then◌, rule, each}
use Rattle.format.specs.Plain.{Listing, end_of, sub}
use Rattle.format.specs.Nest.{nest}
use Rattle.format.specs.Buffer.{word_shape}
use Rattle.format.specs.Writer.{row_five, list_verdict}
use Rattle.format.specs.Builder.{holding_all, Builder, subtree_words, word_in, sub_at, end_at, disagrees, new, Step, builder_run, builder_from, is_among, build_list, inner_list, one_inside, skip_list, ready, written, if_ready, build, build_skip_top_subtree}
use Rattle.builder.specs.Frames.{Trees, flat, Frame, Model, whole, begun, laid, model_run, new_model, model_list, model_from, is_one, model_skip}
use Rattle.format.proofs.Each.{and_left, and_right, true_false, both, rule_passed, all_each}
use Rattle.format.proofs.NestRun.{nest_as_run}
use Rattle.builder.proofs.Trees.{Sized, flat_length, tree_at_lem}
use Rattle.builder.proofs.Forest.{Fit, is_sub, count_in, Forest, leaf, tree, forest_sized, forest_append, forest_fit, forest_more, forest_run, pass_both}
use Rattle.builder.proofs.Framed.{subtree_fit, fields_same, length_numbers}
use Rattle.builder.proofs.BuilderRun.{Holds, tree_is, front_words, agrees, closed_within, holds_run, holds_new, all_accepted}

-- ---- a subtree around a forest passes rows 1 to 4

module _ (t : List ℕ) (xs : Trees) (f : Fit t) (q : is_sub t ≡ true) (c : count_in t ≡ length xs) (g : Forest 255 xs) (h : suc (length xs) ≤ 1048576) where
  l : List ℕ
  l = flat (t ∷ xs)

  sized : Sized (t ∷ xs)
  sized = (f.size, forest_sized g)

  long : length l ≡ tree_size * suc (length xs)
  unfolding l
  long = flat_length (t ∷ xs) sized

  many : list_count l ≡ suc (length xs)
  many = let a = long in omega arith

  stands : (n : ℕ) → n < suc (length xs) → tree_list (word_of l n) ≡ get_or (t ∷ xs) n []
  unfolding l
  stands n k = tree_at_lem l [] (t ∷ xs) (sym (append-nil l)) sized n k

  fit_at : (n : ℕ) → n < suc (length xs) → Fit (get_or (t ∷ xs) n [])
  fit_at zero k = f
  fit_at (suc n) k = forest_fit g n (omega arith)

  row_two_lem : (n : ℕ) → n < suc (length xs) → row_two l n ≡ passed
  row_two_lem n k =
      let a : word_fields (word_of l n) ≡ true = sym (fields_same (word_of l n)) ∙ ap (λ x. word_fields (word_in x)) (stands n k) ∙ (fit_at n k).fields in
      rw a

  size_ok : list_sized l ≡ true
  size_ok =
      let a = long in
      let m = many in
      let x = eq-eqb (length l % tree_size) 0 (omega arith) in
      let y = le-leb 1 (list_count l) (omega arith) in
      let z = le-leb (list_count l) 1048576 (omega arith) in
      simp (x, y, z)

  rows_three_four : nest word_shape (given l) ≡ passed
  rows_three_four =
      let G : Listing (List ℕ) = given l in
      let m = many in
      let s = stands 0 (omega arith) in
      let u : sub word_shape G 0 ≡ true = ap is_sub s ∙ q in
      let z : 1 + length xs ≡ G.k = omega arith in
      let k : end_of word_shape G 0 ≡ G.k = ap (λ x. 0 + 1 + count_in x) s ∙ ap (λ x. 0 + 1 + x) c ∙ z in
      let e = eq-eqb (end_of word_shape G 0) G.k k in
      let r = forest_run G g 1 (λ i p. next i p) in
      nest_as_run word_shape G ∙ simp (u, e) (rw z at r)
    where
      next : (i : ℕ) → i < length xs → tree_list (word_of l (1 + i)) ≡ get_or xs i []
      next i p =
          let e : 1 + i ≡ suc i = omega arith in
          ap (λ n. tree_list (word_of l n)) e ∙ stands (suc i) (omega arith)

  rules_pass : list_rules l ≡ passed
  unfolding list_rules
  rules_pass =
      let m = many in
      pass_both (all_each (row_two l) (list_count l) 0 (λ n a b. row_two_lem n (omega arith))) rows_three_four

  pub rows_pass : list_rows (flat (t ∷ xs)) ≡ passed
  unfolding l
  rows_pass = let a = size_ok in simp a rules_pass

-- rows 1 to 4 are silent: what is left of the writer's first five
pub five_left : (parts symbols l : List ℕ) → list_rows l ≡ passed
    → list_verdict parts symbols l ≡ (rule (own_tables parts symbols).sized 1 0 and_then each (row_five (own_mode parts symbols) l) (list_count l))
unfolding list_verdict
five_left parts symbols l e =
    let a = both (rule (list_sized l) 1 0) (list_rules l) e in
    let b = rule_passed (list_sized l) 1 0 a.0 in
    let c = a.1 in
    simp (b, c)

-- a forest that is one subtree
only_one : {d : ℕ} {t : List ℕ} {zs : Trees} → Forest d (t ∷ zs) → is_sub t ≡ true → Fit t × Forest d zs
only_one (leaf f s r) q = true_false _ q s
only_one (tree f s c e a b) q = (f, rw e (forest_append (forest_more a) b))

one_rows : (ts : Trees) → Forest 255 ts → length ts ≤ 1048576 → is_one ts ≡ true → list_rows (flat ts) ≡ passed
one_rows [] g h e = true_false false e refl
one_rows (t ∷ ts) g h e =
    let q = and_left (is_sub t) (eqb (count_in t) (length ts)) e in
    let c = eqb-true (count_in t) (length ts) (and_right (is_sub t) (eqb (count_in t) (length ts)) e) in
    let a = only_one g q in
    rows_pass t ts a.0 q c a.1 h

-- ---- a builder with none open

module _ (r : Frame) (b : Builder) (l : List ℕ) (H : Holds r [] b l) where
  words : take (tree_size * b.count) l ≡ flat (begun r)
  unfolding laid
  words = front_words r [] b l H

  one_less : b.count ≡ suc (length r.made)
  unfolding laid
  one_less = H.counts

  -- "the root taken to hold all others": the list is the root's frame, closed
  builds : build_list l b ≡ flat (whole r)
  unfolding build_list holding_all flat
  builds =
      let e = flat_length (begun r) (refl, forest_sized H.well.1.forest) in
      let k : list_count (flat (begun r)) - 1 ≡ length r.made = omega arith in
      let q : List ℕ = r.kind ∷ span_list r.opening ++ span_list r.closing ++ flat r.made in
      ap holding_all words ∙ ap (λ n. 3 ∷ n ∷ q) k

  inner : inner_list l b ≡ flat r.made
  unfolding inner_list flat
  inner = ap (drop tree_size) words

  at_one : (t : List ℕ) (ts : Trees) → r.made ≡ t ∷ ts → tree_list (word_of l 1) ≡ t
  unfolding laid
  at_one t ts e =
      let n = one_less in
      let k = ap length e in
      tree_is r [] b l H 1 (omega arith) ∙ ap (λ x. get_or x 0 []) e

  one_inside_lem : one_inside l b ≡ is_one r.made
  one_inside_lem = go r.made refl
    where
      go : (ts : Trees) → r.made ≡ ts → one_inside l b ≡ is_one ts
      go [] e =
          let n = one_less in
          let k = ap length e in
          let x = lt-leb 2 b.count (omega arith) in
          simp x
      go (t ∷ ts) e =
          let n = one_less in
          let k = ap length e in
          let a = at_one t ts e in
          let x = le-leb 2 b.count (omega arith) in
          let y : sub_at l 1 ≡ is_sub t = ap is_sub a in
          let z : word_of l 1 1 ≡ count_in t = ap count_in a in
          let u : b.count - 2 ≡ length ts = omega arith in
          simp (x, y, z, u)

  skips : skip_list l b ≡ (if is_one r.made then flat r.made else flat (whole r))
  skips = λ i. if one_inside_lem i then inner i else builds i

  root_fit : Fit (subtree_words (length r.made) r.kind r.opening r.closing)
  root_fit = let f = H.well.1 in subtree_fit (length r.made) r.kind r.opening r.closing f.kind f.opening f.closing

  forest : Forest 255 r.made
  forest = subst (λ d. Forest d r.made) H.well.0 H.well.1.forest

  build_rows : list_rows (flat (whole r)) ≡ passed
  build_rows =
      let n = one_less in
      let m = H.small in
      rows_pass (subtree_words (length r.made) r.kind r.opening r.closing) r.made root_fit refl refl forest (omega arith)

  skip_rows : list_rows (if is_one r.made then flat r.made else flat (whole r)) ≡ passed
  skip_rows = go (is_one r.made) refl
    where
      go : (x : Bool) → is_one r.made ≡ x → list_rows (if is_one r.made then flat r.made else flat (whole r)) ≡ passed
      go true e =
          let n = one_less in
          let m = H.small in
          simp e (one_rows r.made forest (omega arith) e)
      go false e = simp e build_rows

  -- "10 while one is open": none is
  is_ready : ready l b ≡ passed
  is_ready =
      let a = agrees r [] b l H in
      let o = eq-eqb (length b.opened) 0 (ap length H.opens) in
      simp (a, o)

-- ---- from `new`, every list of steps

no_frames : (fs : List Frame) → length fs ≡ 0 → fs ≡ []
no_frames [] h = refl
no_frames (f ∷ fs) h = absurd (omega arith)

module _ (kind : ℕ) (o c : WordSpan) (l : List ℕ) (ss : List Step) (ok : (new kind o c l).verdict ≡ passed) where
  abbrev B : Builder
  B = (builder_from kind o c l ss).builder

  abbrev L : List ℕ
  L = (builder_from kind o c l ss).words

  abbrev M : Model
  M = model_from kind o c l ss

  pub held : Holds (model_from kind o c l ss).root (model_from kind o c l ss).frames (builder_from kind o c l ss).builder (builder_from kind o c l ss).words
  unfolding builder_from model_from
  held = holds_run ss (new_model kind o c) (new kind o c l).builder (new kind o c l).words (holds_new kind o c l ok)

  -- the run begins with the trees that the accepted steps have made so far, and as many subtrees are open
  pub always_words : take (tree_size * (builder_from kind o c l ss).builder.count) (builder_from kind o c l ss).words
      ≡ flat (laid (model_from kind o c l ss).root (model_from kind o c l ss).frames)
  always_words = front_words M.root M.frames B L held

  pub always_open : length (builder_from kind o c l ss).builder.opened ≡ length (model_from kind o c l ss).frames
  always_open = ap length held.opens ∙ length_numbers M.root M.frames

  -- the builder agrees with the run
  pub always_agrees : disagrees (builder_from kind o c l ss).words (builder_from kind o c l ss).builder ≡ false
  always_agrees = agrees M.root M.frames B L held

  -- a subtree that is not open lies within what is there
  pub always_within : (i : ℕ) → 1 ≤ i → i < (builder_from kind o c l ss).builder.count → sub_at (builder_from kind o c l ss).words i ≡ true
      → is_among i (builder_from kind o c l ss).builder.opened ≡ false → end_at (builder_from kind o c l ss).words i ≤ (builder_from kind o c l ss).builder.count
  always_within = closed_within M.root M.frames B L held

  module _ (none_open : (builder_from kind o c l ss).builder.opened ≡ []) where
    shut : Holds M.root [] B L
    shut =
        let a = always_open in
        let e = ap length none_open in
        subst (λ fs. Holds M.root fs B L) (no_frames M.frames (omega arith)) held

    -- THE RUN THEOREM: what is written in the run, the root taken to hold all others, is the list that the accepted steps make
    pub run_builds : build_list (builder_from kind o c l ss).words (builder_from kind o c l ss).builder ≡ model_list (model_from kind o c l ss)
    run_builds = builds M.root B L shut

    pub run_skips : skip_list (builder_from kind o c l ss).words (builder_from kind o c l ss).builder ≡ model_skip (model_from kind o c l ss)
    run_skips = skips M.root B L shut

    module _ (parts symbols : List ℕ) where
      -- hence what is built is what the writer makes of that list
      pub run_build : (work out : List ℕ) → build parts symbols work out (builder_from kind o c l ss).words (builder_from kind o c l ss).builder
          ≡ written parts symbols work out (model_list (model_from kind o c l ss))
      run_build work out = λ i. if_ready parts symbols work out (is_ready M.root B L shut i) (written parts symbols work out (run_builds i))

      pub run_build_skip : (work out : List ℕ)
          → build_skip_top_subtree parts symbols work out (builder_from kind o c l ss).words (builder_from kind o c l ss).builder
          ≡ written parts symbols work out (model_skip (model_from kind o c l ss))
      run_build_skip work out = λ i. if_ready parts symbols work out (is_ready M.root B L shut i) (written parts symbols work out (run_skips i))

      -- rows 2 to 4 are silent, and row 1 on the list: only the tables' sizes, row 5 and row 6 can refuse
      pub run_verdict : list_verdict parts symbols (model_list (model_from kind o c l ss))
          ≡ (rule (own_tables parts symbols).sized 1 0 and_then
          each (row_five (own_mode parts symbols) (model_list (model_from kind o c l ss))) (list_count (model_list (model_from kind o c l ss))))
      run_verdict = five_left parts symbols (model_list M) (build_rows M.root B L shut)

      pub run_skip_verdict : list_verdict parts symbols (model_skip (model_from kind o c l ss))
          ≡ (rule (own_tables parts symbols).sized 1 0 and_then
          each (row_five (own_mode parts symbols) (model_skip (model_from kind o c l ss))) (list_count (model_skip (model_from kind o c l ss))))
      run_skip_verdict = five_left parts symbols (model_skip M) (skip_rows M.root B L shut)

    pub run_rows : list_rows (model_list (model_from kind o c l ss)) ≡ passed
    run_rows = build_rows M.root B L shut

    pub run_skip_rows : list_rows (model_skip (model_from kind o c l ss)) ≡ passed
    run_skip_rows = skip_rows M.root B L shut

-- where none is refused, the model is that of all the steps
pub plain_model : (kind : ℕ) (o c : WordSpan) (l : List ℕ) (ss : List Step) → (builder_from kind o c l ss).verdict ≡ passed
    → ((new kind o c l).verdict ≡ passed) × (model_from kind o c l ss ≡ model_run ss (new_model kind o c))
unfolding builder_from model_from
plain_model kind o c l ss e =
    let a = new kind o c l in
    let x = both a.verdict (builder_run ss a.builder a.words).verdict e in
    (x.0, ap (λ z. model_run z (new_model kind o c)) (all_accepted ss a.builder a.words x.1))

-- the run theorem where none is refused
pub run_passed : (kind : ℕ) (o c : WordSpan) (l : List ℕ) (ss : List Step) → (builder_from kind o c l ss).verdict ≡ passed
    → (builder_from kind o c l ss).builder.opened ≡ []
    → build_list (builder_from kind o c l ss).words (builder_from kind o c l ss).builder ≡ model_list (model_run ss (new_model kind o c))
run_passed kind o c l ss e n =
    let p = plain_model kind o c l ss e in
    run_builds kind o c l ss p.0 n ∙ ap model_list p.1
