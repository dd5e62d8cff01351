-- The rows in turn: one law for each return of src/write.rt and src/once.rt.
use Prim.Native.Nat.{ℕ, ◌+◌, ◌*◌, ◌-◌, ◌/◌, ◌%◌, ◌≤◌, ◌<◌}
use mathlib.Core.Bool.{Bool, true, false, not, ◌&&◌}
use mathlib.Core.Path.{◌≡◌, refl, sym, ap, ◌∙◌, subst}
use mathlib.Core.List.{List}
use mathlib.Core.Logic.{⊎_elim}
use native.Mathlib.Omega.{arith}
use native.Mathlib.Nat.{zero-add}
use borrow.Author.Tests.{le-leb, lt-leb, leb-true, not-true, not-false}
use lib.Dec.{leb, eqb}
use lib.ListN.{length, get_or}
use lib.Seq.{ext_get_or}
use Rattle.std.specs.Prelude.{Result, Ok, Err, ⊤}
use Rattle.format.specs.Verdict as format
use Rattle.format.specs.Verdict.{passed, refused, refusal, each_from, each}
use Rattle.format.specs.Word.{put}
use Rattle.format.specs.Write.{work_words}
use Rattle.format.specs.Tables.{own_tables, Mode, tables_sized, own_limits, own_mode}
use Rattle.format.specs.WordList.{list_count, list_sized, list_rules}
use Rattle.format.specs.Builder.{holding_all}
use Rattle.format.specs.Writer.{present, row_five, list_verdict, raws, packed_in}
use Rattle.format.proofs.Each.{and₃, and_right, and_left}
use Rattle.format.specs.Width.{part_size, tree_size}
use Rattle.format.specs.Tables as tables
use Rattle.format.proofs.Holding.{holding_length, holding_count, holding_same, holding_five, passed_root}
use Rattle.format.proofs.Tally.{lt_or_le}
use Rattle.format.proofs.Put.{put_length, put_at, put_after}
use Rattle.format.proofs.WriteSize.{mode_works}
use Rattle.places.proofs.Use.{roomy}
use Rattle.places.specs.Places.{Roomy, Indexed}
use Rattle.tree.specs.Mode.{limits_of, mode_of}
use Rattle.tree.specs.declared.limits.Limits.{Limits}
use Rattle.tree.proofs.OwnMode.{pair_of, own_whole, own_mode_lem}
use Rattle.tree.specs.Refusal.{verdict_answer, report_answer}
use Rattle.tree.specs.declared.refusal.Refusal.{Refusal}
use Rattle.passes.specs.Passed.{Within, Passed}
use Rattle.passes.specs.Runs.{mode_by}
use Rattle.passes.specs.Tail.{five_in, five_from, rest_of, size_from, head_of}
use Rattle.passes.specs.Run.{Ready, Sized, Beyond, first_absent}
use Rattle.passes.specs.declared.runs.Runs.{Runs}
use Rattle.passes.proofs.TailLaw.{work_at, head_whole}
use Rattle.passes.proofs.HoldLaw.{held_count, hold_size}
use Rattle.passes.proofs.RunLaw.{run_cases}
use Rattle.passes.proofs.FiveReturns.{five_past, five_here, found_refused, none_passed}
use Rattle.writer.specs.Written.{Written, WrittenBy, WrittenIn, rows_in, Ruled, Finished}

pub refuse_answer : (r n : ℕ) → Err (record { number = r; tree = n }) ≡ report_answer (refusal r n)
unfolding report_answer
refuse_answer r n = refl

-- ---- a verdict from its answer

refusal_same : (a b : Refusal) → ◌≡◌ {A = Result ⊤ Refusal} (Err a) (Err b) → a ≡ b
refusal_same a b e = cc

was_refused : (v : format.Verdict) (a : Refusal) → verdict_answer v ≡ Err a → v ≡ refused a.number a.tree
unfolding verdict_answer
was_refused passed a e = let z : ◌≡◌ {A = ℕ} 0 1 = cc in absurd (omega arith)
was_refused (refused r n) a e = ap (λ b. refused b.number b.tree) (refusal_same (record { number = r; tree = n }) a e)

was_passed : (v : format.Verdict) → verdict_answer v ≡ Ok tt → v ≡ passed
unfolding verdict_answer
was_passed passed e = refl
was_passed (refused r n) e = let z : ◌≡◌ {A = ℕ} 0 1 = cc in absurd (omega arith)

-- ---- a row that refuses

module _ (v : format.Verdict) (M : Mode) (l work out : List ℕ) where
  was_written : (r n : ℕ) → v ≡ refused r n → WrittenBy v M l work out (Err (record { number = r; tree = n })) work out
  unfolding report_answer
  was_written r n e = record { answer = rw e; works = rw e; outs = rw e }

  written_at : (a : Refusal) → v ≡ refused a.number a.tree → WrittenBy v M l work out (Err a) work out
  written_at a e = was_written a.number a.tree e

  written_as : (r n : ℕ) (q : Result ℕ Refusal) → q ≡ report_answer (refusal r n) → v ≡ refused r n → WrittenBy v M l work out q work out
  unfolding report_answer
  written_as r n q f e = rw f (was_written r n e)

-- ---- document 01's tables

module _ (p s l : List ℕ) where
  verdict_one : (list_sized l && (own_tables p s).sized) ≡ false → list_verdict p s l ≡ refused 1 0
  unfolding list_verdict
  verdict_one e = simp e

  module _ (e : (list_sized l && (own_tables p s).sized) ≡ true) where
    verdict_rules : (r n : ℕ) → list_rules l ≡ refused r n → list_verdict p s l ≡ refused r n
    unfolding list_verdict
    verdict_rules r n q = simp (e, q)

    -- behind row 1
    verdict_rows : list_verdict p s l ≡ rows_in (own_mode p s) l
    unfolding list_verdict rows_in
    verdict_rows = simp e

  own_written : (work out : List ℕ) (r : Result ℕ Refusal) (work' out' : List ℕ) → WrittenBy (list_verdict p s l) (own_mode p s) l work out r work' out' → Written p s l work out r work' out'
  own_written work out r work' out' w = record { answer = w.answer; works = w.works; outs = w.outs }

module _ (p s l : List ℕ) (z : (list_sized l && (own_tables p s).sized) ≡ true) (N : Limits) (d : limits_of N ≡ own_limits (length p / part_size) (length s)) where
  tabled_own : (own_tables p s).sized ≡ true
  tabled_own = and_right (list_sized l) (own_tables p s).sized z

  pub own_within : Within (mode_of N p (pair_of N p) s) l
  own_within =
      let P = length p / part_size in
      let x = and₃ (eqb (length l % tree_size) 0) (leb 1 (list_count l)) (leb (list_count l) 1048576) (and_left (list_sized l) (own_tables p s).sized z) in
      let t = and₃ (leb 2 P) (leb P 2097152) (leb (length s) 1048576) (and_right (eqb (length p % part_size) 0) (tables_sized P (length s)) tabled_own) in
      let m = leb-true P 2097152 t.1 in
      let i : N.limit ≡ P - 2 = ap (λ (y : tables.Limits). y.limit) d in
      let r : N.root ≡ P - 2 = ap (λ (y : tables.Limits). y.root) d in
      let w = own_whole p s tabled_own N d in
      record {
        sized = refl;
        some_trees = leb-true 1 (list_count l) x.1;
        most_trees = leb-true (list_count l) 1048576 x.2;
        below = w.below;
        two = w.two;
        most_parts = omega arith;
        most_root = omega arith;
        most_symbols = leb-true (length s) 1048576 t.2;
      }

  pub own_written_held : (work out : List ℕ) (r : Result ℕ Refusal) (work' out' : List ℕ) → WrittenIn (mode_of N p (pair_of N p) s) (holding_all l) work out r work' out'
      → Written p s (holding_all l) work out r work' out'
  own_written_held work out r work' out' w =
      let n = holding_length l in
      let y : (list_sized (holding_all l) && (own_tables p s).sized) ≡ true = rw n z in
      let u : WrittenIn (own_mode p s) (holding_all l) work out r work' out' = subst (λ (M : Mode). WrittenIn M (holding_all l) work out r work' out') (own_mode_lem p s tabled_own N d) w in
      own_written p s (holding_all l) work out r work' out'
      (subst (λ (v : format.Verdict). WrittenBy v (own_mode p s) (holding_all l) work out r work' out') (sym (verdict_rows p s (holding_all l) y)) u)

pub ruleset own_cases = (own_within, own_written_held)

-- ---- the public functions

module _ (p s l : List ℕ) (x : Bool) (e : x ≡ list_sized l) where
  pub row_one_list : not x ≡ true → (work out : List ℕ) (q : Result ℕ Refusal) → q ≡ report_answer (refusal 1 0) → Written p s l work out q work out
  row_one_list h work out q f =
      let a : list_sized l ≡ false = sym e ∙ not-true x h in
      own_written p s l work out q work out (written_as (list_verdict p s l) (own_mode p s) l work out 1 0 q f (verdict_one p s l (simp a)))

  module _ (h : not x ≡ false) where
    listed : list_sized l ≡ true
    listed = sym e ∙ not-false x h

    three : (eqb (length l % tree_size) 0 ≡ true) × (leb 1 (list_count l) ≡ true) × (leb (list_count l) 1048576 ≡ true)
    three = and₃ (eqb (length l % tree_size) 0) (leb 1 (list_count l)) (leb (list_count l) 1048576) listed

    pub some_listed : 1 ≤ list_count l
    some_listed = leb-true 1 (list_count l) three.1

    pub most_listed : list_count l ≤ 1048576
    most_listed = leb-true (list_count l) 1048576 three.2

    module _ (y : Bool) (f : y ≡ (own_tables p s).sized) where
      pub row_one_tables : not y ≡ true → (work out : List ℕ) (q : Result ℕ Refusal) → q ≡ report_answer (refusal 1 0) → Written p s l work out q work out
      row_one_tables k work out q g =
          let a : (own_tables p s).sized ≡ false = sym f ∙ not-true y k in
          own_written p s l work out q work out (written_as (list_verdict p s l) (own_mode p s) l work out 1 0 q g (verdict_one p s l (simp (listed, a))))

      module _ (k : not y ≡ false) where
        tabled : (own_tables p s).sized ≡ true
        tabled = sym f ∙ not-false y k

        pub sized : (list_sized l && (own_tables p s).sized) ≡ true
        sized = simp (listed, tabled)

        module _ (v : Result ⊤ Refusal) (g : v ≡ verdict_answer (list_rules l)) where
          pub rules_refused : (a : Refusal) → v ≡ Err a → (work out : List ℕ) → Written p s l work out (Err a) work out
          rules_refused a q work out =
              own_written p s l work out (Err a) work out
              (written_at (list_verdict p s l) (own_mode p s) l work out a (verdict_rules p s l sized a.number a.tree (was_refused (list_rules l) a (sym g ∙ q))))

-- a list that rows 2 to 4 pass has a root that holds all others
module _ (l : List ℕ) (v : Result ⊤ Refusal) (g : v ≡ verdict_answer (list_rules l)) (q : v ≡ Ok tt) where
  own_rules : list_rules l ≡ passed
  own_rules = was_passed (list_rules l) (sym g ∙ q)

  as_it_is : holding_all l ≡ l
  as_it_is = holding_same l (passed_root l own_rules)

  pub rules_passed : list_rules (holding_all l) ≡ passed
  rules_passed = ap list_rules as_it_is ∙ own_rules

  pub written_list : (p s work out : List ℕ) (r : Result ℕ Refusal) (work' out' : List ℕ) → Written p s (holding_all l) work out r work' out' → Written p s l work out r work' out'
  written_list p s work out r work' out' h = subst (λ (m : List ℕ). Written p s m work out r work' out') as_it_is h

pub ruleset list_cases = (row_one_list, some_listed, most_listed, row_one_tables, sized, rules_refused, rules_passed, written_list)

-- ---- the same where the root is taken to hold all others

module _ (p s l : List ℕ) (x : Bool) (e : x ≡ list_sized l) where
  held_size : x ≡ list_sized (holding_all l)
  held_size = let n = holding_length l in e ∙ rw n

  pub row_one_held : not x ≡ true → (work out : List ℕ) (q : Result ℕ Refusal) → q ≡ report_answer (refusal 1 0) → Written p s (holding_all l) work out q work out
  row_one_held h work out q f = row_one_list p s (holding_all l) x held_size h work out q f

  module _ (h : not x ≡ false) (y : Bool) (f : y ≡ (own_tables p s).sized) where
    pub row_one_held_tables : not y ≡ true → (work out : List ℕ) (q : Result ℕ Refusal) → q ≡ report_answer (refusal 1 0) → Written p s (holding_all l) work out q work out
    row_one_held_tables k work out q g = row_one_tables p s (holding_all l) x held_size h y f k work out q g

    pub held_refused : not y ≡ false → (v : Result ⊤ Refusal) → v ≡ verdict_answer (list_rules (holding_all l)) → (a : Refusal) → v ≡ Err a → (work out : List ℕ)
        → Written p s (holding_all l) work out (Err a) work out
    held_refused k v g a q work out = rules_refused p s (holding_all l) x held_size h y f k v g a q work out

pub held_passed : (l : List ℕ) (v : Result ⊤ Refusal) → v ≡ verdict_answer (list_rules (holding_all l)) → v ≡ Ok tt → list_rules (holding_all l) ≡ passed
held_passed l v g q = was_passed (list_rules (holding_all l)) (sym g ∙ q)

pub ruleset held_cases = (row_one_held, some_listed, most_listed, row_one_held_tables, sized, held_refused, held_passed)

-- ---- row 5

each_five : (M : Mode) (l : List ℕ) → each (row_five M l) (list_count l) ≡ five_from M l 0
unfolding five_in
each_five M l = let z : list_count l - 0 ≡ list_count l = omega arith in rw z

rows_five : (M : Mode) (l : List ℕ) → list_rules l ≡ passed → rows_in M l ≡ each (row_five M l) (list_count l)
unfolding rows_in
rows_five M l q = rw q

-- row 5 does not turn on the root's count
held_five : (M : Mode) (l : List ℕ) → each (row_five M (holding_all l)) (list_count (holding_all l)) ≡ five_from M l 0
unfolding five_in
held_five M l =
    each_five M (holding_all l) ∙ ap (λ k. each_from (row_five M (holding_all l)) (k - 0) 0) (holding_count l) ∙ holding_five l M (list_count l - 0) 0

module _ (M : Mode) (l : List ℕ) (w : Within M l) where
  pub within_some : 1 ≤ list_count l
  within_some = w.some_trees

  module _ (r : list_rules (holding_all l) ≡ passed) (x : Bool) (e : x ≡ present M l 0) where
    pub root_absent : not x ≡ true → (work out : List ℕ) (q : Result ℕ Refusal) → q ≡ report_answer (refusal 5 0) → WrittenIn M (holding_all l) work out q work out
    root_absent h work out q f =
        written_as (rows_in M (holding_all l)) M (holding_all l) work out 5 0 q f
        (rows_five M (holding_all l) r ∙ held_five M l ∙ five_here M l 0 (list_count l) w.some_trees (sym e ∙ not-true x h))

    pub ruled : not x ≡ false → Ruled M l
    ruled h = record { within = w; rules = r; root = sym e ∙ not-false x h }

-- the pair is there
pub within_two : (g t : ℕ) (p q s l : List ℕ) → Within (record { sized = true; limit = g; root = t; parts = p; pair = q; symbols = s }) l → 2 * part_size ≤ length q
within_two g t p q s l w = w.two

pub ruleset ruled_cases = (within_some, within_two, root_absent, ruled)

module _ (M : Mode) (l : List ℕ) (w : Ruled M l) where
  rows : rows_in M (holding_all l) ≡ each (row_five M (holding_all l)) (list_count (holding_all l))
  rows = rows_five M (holding_all l) w.rules

  below : each (row_five M (holding_all l)) (list_count (holding_all l)) ≡ five_from M l 1
  below = held_five M l ∙ five_past M l 0 (list_count l) w.within.some_trees w.root

  module _ (v : Result ⊤ Refusal) (g : v ≡ verdict_answer (five_from M l 1)) where
    pub five_refused : (a : Refusal) → v ≡ Err a → (work out : List ℕ) → WrittenIn M (holding_all l) work out (Err a) work out
    five_refused a q work out = written_at (rows_in M (holding_all l)) M (holding_all l) work out a (rows ∙ below ∙ was_refused (five_from M l 1) a (sym g ∙ q))

    pub five_passed : v ≡ Ok tt → Passed M l
    five_passed q = record { within = w.within; rules = w.rules; present = below ∙ was_passed (five_from M l 1) (sym g ∙ q) }

  -- where the trees below the root are one run
  module _ (m : ℕ) (f : m ≡ first_absent M l 1 (list_count l)) where
    pub once_refused : m < list_count l → (work out : List ℕ) → WrittenIn M (holding_all l) work out (Err (record { number = 5; tree = m })) work out
    once_refused h work out = was_written (rows_in M (holding_all l)) M (holding_all l) work out 5 m (rows ∙ below ∙ found_refused M l 1 (list_count l) m f h)

    pub once_passed : list_count l ≤ m → Passed M l
    once_passed h = record { within = w.within; rules = w.rules; present = below ∙ none_passed M l 1 (list_count l) m f h }

  pub ruled_most : list_count l ≤ 1048576
  ruled_most = w.within.most_trees

  pub ruled_some : 1 ≤ list_count l
  ruled_some = w.within.some_trees

-- arrays of zeros, and slots that have been built
module _ (t : Runs) (l : List ℕ) (w : Ruled (mode_by t) l) where
  pub slots_roomy : (a b : ℕ) → 0 < a → 0 < b → a ≤ 1048576 → b ≤ 1048576 → Roomy t.limits.limit (length t.parts.now) (length t.symbols.now) a b
  slots_roomy a b h₁ h₂ h₃ h₄ = roomy t.limits.limit (length t.parts.now) (length t.symbols.now) a b w.within.below w.within.most_parts w.within.most_symbols h₁ h₂ h₃ h₄

  pub built_ready : (ps ss os cs ys : List ℕ) → Indexed t.limits.limit t.parts.now t.symbols.now ps ss → (a b m : ℕ) → 0 < a → 0 < b → a ≤ 1048576 → b ≤ 1048576 → 1 ≤ m
      → length ps ≡ a → length ss ≡ b → length os ≡ m → length cs ≡ m → length ys ≡ m → Ready t ps ss os cs ys
  built_ready ps ss os cs ys i a b m h₁ h₂ h₃ h₄ h₅ e₁ e₂ e₃ e₄ e₅ =
      record {
        lent = record {
          roomy = rw (e₁, e₂) (slots_roomy a b h₁ h₂ h₃ h₄);
          some = omega arith;
          even_closes = omega arith;
          even_syms = omega arith;
        };
        indexed = i;
      }

pub ruleset once_cases = (ruled_most, once_refused, once_passed)

pub ruleset built_cases = (run_cases, ruled_most, five_refused, five_passed)

-- ---- row 6

rows_passed : (M : Mode) (l : List ℕ) → Passed M l → rows_in M (holding_all l) ≡ passed
unfolding rows_in
rows_passed M l ok = let a = ok.rules in let b = ok.present in rw (a, b)

module _ (M : Mode) (l : List ℕ) (ok : Passed M l) (work : List ℕ) (w : Sized M l 0 work) (t : ℕ) (e : t ≡ get_or work 0 0) where
  total : t ≡ length (packed_in M (holding_all l))
  unfolding rest_of
  total = e ∙ w.at 0 (omega arith) (omega arith) ∙ sym (hold_size M l ok 0)

  module _ (out : List ℕ) where
    pub out_short : length out < t → (q : Result ℕ Refusal) → q ≡ report_answer (refusal 6 0) → Finished M (holding_all l) out q out
    out_short h q f =
        let z = total in
        let a : leb (length (packed_in M (holding_all l))) (length out) ≡ false = lt-leb (length (packed_in M (holding_all l))) (length out) (omega arith) in
        record { answer = f ∙ simp a; contents = simp a }

    module _ (h : t ≤ length out) where
      pub out_fits_lem : size_from M l 0 ≤ length out
      out_fits_lem = let z = w.at 0 (omega arith) (omega arith) in omega arith

      -- all trees are written
      pub out_written : (out' : List ℕ) → out' ≡ put out 0 (head_of M (holding_all l) (list_count l)) → Finished M (holding_all l) out (Ok t) out'
      unfolding report_answer
      out_written out' g =
          let z = total in
          let f : out' ≡ put out 0 (packed_in M (holding_all l)) = g ∙ ap (λ n. put out 0 (head_of M (holding_all l) n)) (sym (held_count M l ok)) ∙ ap (put out 0) (head_whole M (holding_all l)) in
          let a : leb (length (packed_in M (holding_all l))) (length out) ≡ true = le-leb (length (packed_in M (holding_all l))) (length out) (omega arith) in
          record { answer = rw z (simp a); contents = f ∙ simp a }

pub ruleset finish_cases = (out_short, out_fits_lem, out_written)

module _ (M : Mode) (l : List ℕ) (ok : Passed M l) (work : List ℕ) where
  pub work_short : length work ≤ list_count l → (out : List ℕ) (q : Result ℕ Refusal) → q ≡ report_answer (refusal 6 0) → WrittenIn M (holding_all l) work out q work out
  work_short h out q f =
      let v = rows_passed M l ok in
      let n = held_count M l ok in
      let a : leb (list_count (holding_all l) + 1) (length work) ≡ false = lt-leb (list_count (holding_all l) + 1) (length work) (omega arith) in
      record { answer = f ∙ simp (v, a); works = simp (v, a); outs = simp (v, a) }

  module _ (h : list_count l < length work) (work' : List ℕ) (w : Sized M l 0 work') (b : Beyond l work' work) where
    abbrev words : List ℕ
    words = work_words (raws M (holding_all l) (list_count (holding_all l)) 0)

    fits : 0 + length words ≤ length work
    fits = let n = held_count M l ok in let a = mode_works M (holding_all l) in omega arith

    filled : work' ≡ put work 0 words
    filled =
        let e = put_length work 0 words fits in
        let f = b.long in
        ext_get_or 0 work' (put work 0 words) (omega arith) (λ i g. ⊎_elim (trees_word i) (later_word i) (lt_or_le i (list_count l + 1)))
      where
        trees_word : (i : ℕ) → i < list_count l + 1 → get_or work' i 0 ≡ get_or (put work 0 words) i 0
        trees_word i g =
            let n = held_count M l ok in
            let a = mode_works M (holding_all l) in
            let e : get_or (put work 0 words) i 0 ≡ get_or words i 0 = rw (zero-add i) at (put_at work 0 words fits i (omega arith)) in
            w.at i (omega arith) (omega arith) ∙ sym (hold_size M l ok i) ∙ sym (work_at M (holding_all l) i) ∙ sym e

        later_word : (i : ℕ) → list_count l + 1 ≤ i → get_or work' i 0 ≡ get_or (put work 0 words) i 0
        later_word i g =
            let n = held_count M l ok in
            let a = mode_works M (holding_all l) in
            b.same i (omega arith) ∙ sym (put_after work 0 words fits i (omega arith))

    pub work_filled : (out : List ℕ) (q : Result ℕ Refusal) (out' : List ℕ) → Finished M (holding_all l) out q out' → WrittenIn M (holding_all l) work out q work' out'
    work_filled out q out' f =
        let v = rows_passed M l ok in
        let n = held_count M l ok in
        let a : leb (list_count (holding_all l) + 1) (length work) ≡ true = le-leb (list_count (holding_all l) + 1) (length work) (omega arith) in
        record { answer = f.answer ∙ simp (v, a); works = filled ∙ simp (v, a); outs = f.contents ∙ simp (v, a) }

pub ruleset passed_cases = (run_cases, work_short, work_filled)
