-- Row 5: one law for each return and each turn of a loop of src/five.rt.
use Prim.Native.Nat.{ℕ, zero, suc, ◌+◌, ◌*◌, ◌-◌, ◌≤◌, ◌<◌}
use mathlib.Core.Bool.{Bool, true, false, not, ◌&&◌}
use mathlib.Core.Path.{◌≡◌, refl, sym, ap, ◌∙◌}
use mathlib.Core.List.{List}
use native.Mathlib.Omega.{arith}
use borrow.Author.Tests.{lt-ltb, le-ltb, eq-eqb, ne_eqb, eqb-true, eqb-false, not-true, not-false}
use lib.Dec.{ltb, eqb}
use lib.ListN.{length, get_or}
use Rattle.std.specs.Prelude.{if◌then◌else◌, Result, Ok, Err, ⊤}
use Rattle.format.specs.Verdict.{Verdict, passed, refused, ◌and_then◌, each_from}
use Rattle.format.specs.Width.{tree_size}
use Rattle.format.specs.Tree.{Raw, punct, ident, literal, subtree}
use Rattle.format.specs.Tables.{Mode, limits, indexed_below}
use Rattle.format.specs.WordList.{word_of, raw_from, list_count}
use Rattle.format.specs.Writer.{find, present, raw_of, row_five}
use Rattle.format.proofs.Each.{each_split}
use Rattle.format.proofs.First.{find_from}
use Rattle.tree.specs.Refusal.{verdict_answer}
use Rattle.tree.specs.declared.refusal.Refusal.{Refusal}
use Rattle.passes.specs.Run.{Run, reach, InTables, absent, first_absent}
use Rattle.passes.specs.Tail.{five_in, five_from}
use Rattle.passes.proofs.RunLaw.{first_word, run_tree}

-- ---- a tree below the root

and_true : (b : Bool) → (b && true) ≡ b
and_true true = refl
and_true false = refl

-- what a sort asks for besides the open part
abbrev also_in : ℕ → ℕ → ℕ → ℕ → ℕ → Bool
also_in P S c y sort = if eqb sort 0 then true else (if ltb 2 sort then ltb c P else ltb y S)

module _ (P S o c y : ℕ) (w : ℕ → ℕ) where
  by_sort : indexed_below (reach P S) (raw_from o c y w) ≡ (ltb o P && also_in P S c y (w 0))
  unfolding raw_from
  by_sort = go (eqb (w 0) 0) (eqb (w 0) 1) (eqb (w 0) 2) refl refl refl
    where
      go : (x₀ x₁ x₂ : Bool) → eqb (w 0) 0 ≡ x₀ → eqb (w 0) 1 ≡ x₁ → eqb (w 0) 2 ≡ x₂ → indexed_below (reach P S) (raw_from o c y w) ≡ (ltb o P && also_in P S c y (w 0))
      go true x₁ x₂ e₀ e₁ e₂ = simp e₀ (sym (and_true (ltb o P)))
      go false true x₂ e₀ e₁ e₂ =
          let a = eqb-true (w 0) 1 e₁ in
          let z : ltb 2 (w 0) ≡ false = le-ltb 2 (w 0) (omega arith) in
          simp (e₀, e₁, z)
      go false false true e₀ e₁ e₂ =
          let a = eqb-true (w 0) 2 e₂ in
          let z : ltb 2 (w 0) ≡ false = le-ltb 2 (w 0) (omega arith) in
          simp (e₀, e₁, e₂, z)
      go false false false e₀ e₁ e₂ =
          let a = eqb-false (w 0) 0 e₀ in
          let b = eqb-false (w 0) 1 e₁ in
          let d = eqb-false (w 0) 2 e₂ in
          let z : ltb 2 (w 0) ≡ true = lt-ltb 2 (w 0) (omega arith) in
          simp (e₀, e₁, e₂, z)

module _ (l : List ℕ) (n P S o c y x : ℕ) (e : x ≡ o) where
  abbrev placed : Bool
  placed = indexed_below (reach P S) (raw_from o c y (word_of l n))

  pub open_absent : P ≤ x → false ≡ placed
  open_absent h = let a : ltb o P ≡ false = le-ltb o P (omega arith) in sym (by_sort P S o c y (word_of l n) ∙ simp a)

  module _ (h : x < P) where
    open_in : ltb o P ≡ true
    open_in = lt-ltb o P (omega arith)

    with_open : (b : Bool) → also_in P S c y (word_of l n 0) ≡ b → b ≡ placed
    with_open b f = sym (by_sort P S o c y (word_of l n) ∙ simp (open_in, f))

    pub punct_present : get_or l (tree_size * n) 0 ≡ 0 → true ≡ placed
    punct_present k = let z : eqb (word_of l n 0) 0 ≡ true = eq-eqb _ _ (first_word l n ∙ k) in with_open true (simp z)

    module _ (k : get_or l (tree_size * n) 0 ≡ 0 → ⊥) where
      no_punct : eqb (word_of l n 0) 0 ≡ false
      no_punct = ne_eqb _ _ (λ q. k (sym (first_word l n) ∙ q))

      module _ (i : 2 < get_or l (tree_size * n) 0) (v : ℕ) (g : v ≡ c) where
        is_subtree_lem : ltb 2 (word_of l n 0) ≡ true
        is_subtree_lem = let a = first_word l n in lt-ltb 2 (word_of l n 0) (omega arith)

        pub close_by : ltb v P ≡ placed
        close_by = with_open (ltb v P) (simp (no_punct, is_subtree_lem, g))

      module _ (i : get_or l (tree_size * n) 0 < 3) (v : ℕ) (g : v ≡ y) where
        no_subtree : ltb 2 (word_of l n 0) ≡ false
        no_subtree = let a = first_word l n in le-ltb 2 (word_of l n 0) (omega arith)

        pub symbol_by : ltb v S ≡ placed
        symbol_by = with_open (ltb v S) (simp (no_punct, no_subtree, g))

all_in : (p s o c y : ℕ) (w : ℕ → ℕ) → InTables p s o c y → indexed_below (reach p s) (raw_from o c y w) ≡ true
unfolding raw_from
all_in p s o c y w t = go (eqb (w 0) 0) (eqb (w 0) 1) (eqb (w 0) 2) refl refl refl
  where
    go : (x₀ x₁ x₂ : Bool) → eqb (w 0) 0 ≡ x₀ → eqb (w 0) 1 ≡ x₁ → eqb (w 0) 2 ≡ x₂ → indexed_below (reach p s) (raw_from o c y w) ≡ true
    go true x₁ x₂ e₀ e₁ e₂ = simp (e₀, lt-ltb _ _ t.opening)
    go false true x₂ e₀ e₁ e₂ = simp (e₀, e₁, lt-ltb _ _ t.opening, lt-ltb _ _ t.symbol)
    go false false true e₀ e₁ e₂ = simp (e₀, e₁, e₂, lt-ltb _ _ t.opening, lt-ltb _ _ t.symbol)
    go false false false e₀ e₁ e₂ = simp (e₀, e₁, e₂, lt-ltb _ _ t.opening, lt-ltb _ _ t.closing)

pub all_in_present : (p s o c y : ℕ) (l : List ℕ) (n : ℕ) (b : Bool) → (b ≡ true → InTables p s o c y) → b ≡ true → true ≡ indexed_below (reach p s) (raw_from o c y (word_of l n))
all_in_present p s o c y l n b f h = sym (all_in p s o c y (word_of l n) (f h))

pub ruleset present_cases = (all_in_present, open_absent, punct_present, close_by, symbol_by)

-- ---- a run

-- where the root's indices are, a tree below it does not ask
below_any : (M : Mode) (t : Raw) → indexed_below (limits M) t ≡ indexed_below (reach M.limit (length M.symbols)) t
below_any M (punct s c x) = refl
below_any M (ident s i r) = refl
below_any M (literal s i k r x) = refl
below_any M (subtree s t n d) = refl

present_below : (M : Mode) (l : List ℕ) (n : ℕ) → 1 ≤ n → present M l n ≡ indexed_below (reach M.limit (length M.symbols)) (raw_of M l n)
present_below M l n h =
    let z : eqb n 0 ≡ false = ne_eqb n 0 (λ q. absurd (omega arith)) in
    let a : present M l n ≡ indexed_below (limits M) (raw_of M l n) = simp z in
    a ∙ below_any M (raw_of M l n)

module _ (M : Mode) (l : List ℕ) where
  absent_past : (n stop : ℕ) → n < stop → present M l n ≡ true → first_absent M l n stop ≡ first_absent M l (n + 1) stop
  unfolding first_absent find absent
  absent_past n stop h a = let e : stop - n ≡ suc (stop - (n + 1)) = omega arith in rw e (simp a)

  absent_here : (n stop : ℕ) → n < stop → present M l n ≡ false → first_absent M l n stop ≡ n
  unfolding first_absent find absent
  absent_here n stop h a = let e : stop - n ≡ suc (stop - (n + 1)) = omega arith in rw e (simp a)

  absent_stop : (n stop : ℕ) → stop ≤ n → first_absent M l n stop ≡ n
  unfolding first_absent find
  absent_stop n stop h = let e : stop - n ≡ 0 = omega arith in rw e

  module _ (from stop n : ℕ) (e : first_absent M l from stop ≡ first_absent M l n stop) where
    pub absent_ends : n ≤ stop → stop ≤ n → stop ≡ first_absent M l from stop
    absent_ends g h = let a = absent_stop n stop h in omega arith

    module _ (os cs ys : List ℕ) (r : Run M l from stop os cs ys) (g : from ≤ n) (h : n < stop)
        (y : Bool) (f : y ≡ indexed_below (reach M.limit (length M.symbols)) (raw_from (get_or os (n - from) 0) (get_or cs (n - from) 0) (get_or ys (n - from) 0) (word_of l n))) where
      present_is : present M l n ≡ y
      present_is =
          let a = r.below in
          present_below M l n (omega arith) ∙ ap (indexed_below (reach M.limit (length M.symbols))) (sym (run_tree M l from stop n os cs ys r g h)) ∙ sym f

      pub absent_found : not y ≡ true → n ≡ first_absent M l from stop
      absent_found k = sym (e ∙ absent_here n stop h (present_is ∙ not-true y k))

      pub absent_goes : not y ≡ false → first_absent M l from stop ≡ first_absent M l (n + 1) stop
      absent_goes k = e ∙ absent_past n stop h (present_is ∙ not-false y k)

pub run_low : (M : Mode) (l : List ℕ) (from stop : ℕ) (os cs ys : List ℕ) → Run M l from stop os cs ys → from ≤ stop
run_low M l from stop os cs ys r = r.some

pub ruleset absent_cases = (run_low, absent_ends, absent_found, absent_goes)

-- ---- row 5 of it, by the first that lacks a place

module _ (M : Mode) (l : List ℕ) where
  found_in : (j n : ℕ) → find (absent M l) j n < n + j → each_from (row_five M l) j n ≡ refused 5 (find (absent M l) j n)
  unfolding find absent each_from
  found_in zero n h = absurd (omega arith)
  found_in (suc j) n h = go (present M l n) refl (found_in j (n + 1))
    where
      go : (b : Bool) → present M l n ≡ b → (find (absent M l) j (n + 1) < n + 1 + j → each_from (row_five M l) j (n + 1) ≡ refused 5 (find (absent M l) j (n + 1)))
          → each_from (row_five M l) (suc j) n ≡ refused 5 (find (absent M l) (suc j) n)
      go true a rec =
          let h' : find (absent M l) j (n + 1) < n + suc j = simp a at h in
          simp a (rec (omega arith))
      go false a rec = simp a

  none_in : (j n : ℕ) → n + j ≤ find (absent M l) j n → each_from (row_five M l) j n ≡ passed
  unfolding find absent each_from
  none_in zero n h = refl
  none_in (suc j) n h = go (present M l n) refl (none_in j (n + 1))
    where
      go : (b : Bool) → present M l n ≡ b → (n + 1 + j ≤ find (absent M l) j (n + 1) → each_from (row_five M l) j (n + 1) ≡ passed) → each_from (row_five M l) (suc j) n ≡ passed
      go true a rec =
          let h' : n + suc j ≤ find (absent M l) j (n + 1) = simp a at h in
          simp a (rec (omega arith))
      go false a rec =
          let h' : n + suc j ≤ n = simp a at h in
          absurd (omega arith)

  module _ (from stop m : ℕ) (f : m ≡ first_absent M l from stop) where
    pub found_refused : m < stop → five_in M l from stop ≡ refused 5 m
    unfolding first_absent five_in
    found_refused h = let a = find_from (absent M l) (stop - from) from in found_in (stop - from) from (omega arith) ∙ ap (refused 5) (sym f)

    pub none_passed : stop ≤ m → five_in M l from stop ≡ passed
    unfolding first_absent five_in
    none_passed h = let a = find_from (absent M l) (stop - from) from in none_in (stop - from) from (omega arith)

    pub run_found : m < stop → (v : Result ⊤ Refusal) → v ≡ verdict_answer (refused 5 m) → v ≡ verdict_answer (five_in M l from stop)
    run_found h v q = q ∙ ap verdict_answer (sym (found_refused h))

    pub run_none : stop ≤ m → Ok tt ≡ verdict_answer (five_in M l from stop)
    unfolding verdict_answer
    run_none h = sym (ap verdict_answer (none_passed h))

pub ruleset run_five_cases = (run_found, run_none)

-- ---- the whole list

module _ (M : Mode) (l : List ℕ) where
  pub five_past : (n stop : ℕ) → n < stop → present M l n ≡ true → five_in M l n stop ≡ five_in M l (n + 1) stop
  unfolding five_in each_from
  five_past n stop h a = let e : stop - n ≡ suc (stop - (n + 1)) = omega arith in rw e (simp a)

  pub five_here : (n stop : ℕ) → n < stop → present M l n ≡ false → five_in M l n stop ≡ refused 5 n
  unfolding five_in each_from
  five_here n stop h a = let e : stop - n ≡ suc (stop - (n + 1)) = omega arith in rw e (simp a)

  five_none : (n stop : ℕ) → stop ≤ n → five_in M l n stop ≡ passed
  unfolding five_in each_from
  five_none n stop h = let e : stop - n ≡ 0 = omega arith in rw e

  five_split : (n m stop : ℕ) → n ≤ m → m ≤ stop → five_in M l n stop ≡ (five_in M l n m and_then five_in M l m stop)
  unfolding five_in
  five_split n m stop h k =
      let e : stop - n ≡ (m - n) + (stop - m) = omega arith in
      let f : n + (m - n) ≡ m = omega arith in
      ap (λ j. each_from (row_five M l) j n) e ∙ each_split (row_five M l) (m - n) (stop - m) n ∙ rw f

  pub five_ends : (from stop n : ℕ) → five_in M l from stop ≡ five_in M l n stop → stop ≤ n → Ok tt ≡ verdict_answer (five_in M l from stop)
  unfolding verdict_answer
  five_ends from stop n e h = let a = five_none n stop h in sym (ap verdict_answer (e ∙ a))

  -- the run that ends before tree m
  module _ (n m : ℕ) (h : n < m) (k : m ≤ list_count l) where
    pub run_passed : Ok tt ≡ verdict_answer (five_in M l n m) → five_from M l n ≡ five_from M l m
    unfolding verdict_answer
    run_passed q = five_split n m (list_count l) (omega arith) k ∙ go (five_in M l n m) q
      where
        go : (v : Verdict) → Ok tt ≡ verdict_answer v → (v and_then five_from M l m) ≡ five_from M l m
        go passed q = refl
        go (refused a b) q = let z : ◌≡◌ {A = ℕ} 0 1 = cc in absurd (omega arith)

    pub run_refused : (e : Refusal) → Err e ≡ verdict_answer (five_in M l n m) → Err e ≡ verdict_answer (five_from M l n)
    unfolding verdict_answer
    run_refused e q = go (five_in M l n m) q ∙ ap verdict_answer (sym (five_split n m (list_count l) (omega arith) k))
      where
        go : (v : Verdict) → Err e ≡ verdict_answer v → Err e ≡ verdict_answer (v and_then five_from M l m)
        go passed q = let z : ◌≡◌ {A = ℕ} 0 1 = cc in absurd (omega arith)
        go (refused a b) q = q
