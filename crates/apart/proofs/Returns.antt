-- One law for each return of the fronts, and what they say together.
use Prim.Native.Nat.{ℕ, ◌*◌, ◌<◌, ◌≤◌}
use mathlib.Core.Bool.{Bool, true, false, not, ◌&&◌}
use mathlib.Core.Path.{◌≡◌, sym, ap, ◌∙◌}
use mathlib.Core.List.{List}
use native.Mathlib.Omega.{arith}
use borrow.Author.Tests.{le-leb, lt-leb, leb-true, eq-eqb, ne_eqb, eqb-true, not-true, not-false}
use lib.ListN.{length}
use lib.Dec.{leb, eqb}
use Rattle.std.specs.Prelude.{Result, ⊤}
use Rattle.format.specs.Width.{part_size}
use Rattle.format.specs.Verdict.{passed, refused}
use Rattle.format.specs.Reader as format
use Rattle.format.specs.Walk.{WalkCall, walk_step}
use Rattle.format.specs.Tables as tables
use Rattle.format.specs.Tables.{rules, Mode, mode_tables}
use Rattle.format.specs.Check.{check}
use Rattle.format.specs.Buffer.{word_shape, raw_shape, reader, raw_reader}
use Rattle.format.specs.Rule.{WalkRule}
use Rattle.format.proofs.Each.{and_left, and_right, and₄}
use Rattle.format.proofs.RawReader.{mode_telling, raw_check}
use Rattle.format.proofs.Reading.{walk_rule}
use Rattle.tree.specs.Mode.{limits_of, mode_of, Whole}
use Rattle.tree.specs.Refusal.{verdict_answer}
use Rattle.tree.specs.declared.limits.Limits.{Limits}
use Rattle.decode.specs.Judge.{limit_rules}
use Rattle.checker.specs.Descent.{after_sizes}
use Rattle.checker.specs.Glance.{reader_of}
use Rattle.checker.proofs.Descent.{check_unsized, check_sized}
use Rattle.walk.specs.Source.{trees_sized, tree_reader_in, report_shape, report_reader_in}
use Rattle.walk.specs.Walk.{step_of, walk_of}
use Rattle.walk.specs.declared.walk.Walk.{Walk}
use Rattle.walk.specs.declared.walk.Step.{Step}
use Rattle.apart.specs.Apart.{sized_apart, sizes_apart, apart_mode}
use Rattle.tree.specs.declared.refusal.Refusal.{Refusal}

-- ---- behind it the runs have what the core asks for, and it is this mode that the core reads

module _ (k count : ℕ) (parts pair symbols : List ℕ) (s : Bool) (e : s ≡ sizes_apart k count parts pair symbols) where
  module _ (h : not s ≡ false) where
    silent : (trees_sized k && sized_apart count parts pair symbols) ≡ true
    unfolding sizes_apart
    silent = sym e ∙ not-false s h

    pub apart_trees : trees_sized k ≡ true
    apart_trees = and_left (trees_sized k) (sized_apart count parts pair symbols) silent

    pub apart_some : 1 ≤ k
    apart_some = leb-true 1 k (and_left (leb 1 k) (leb k 1048576) apart_trees)

    tables_silent : sized_apart count parts pair symbols ≡ true
    tables_silent = and_right (trees_sized k) (sized_apart count parts pair symbols) silent

    module _ (root : ℕ) (N : Limits) (d : limits_of N ≡ record { limit = count; root = root; symbols = length symbols }) where
      pub apart_whole : Whole N parts pair symbols
      unfolding sized_apart
      apart_whole =
          let x = and₄ (leb count 2097152) (leb (part_size * count) (length parts)) (eqb (length pair) (2 * part_size)) (leb (length symbols) 1048576) tables_silent in
          let p = eqb-true (length pair) (2 * part_size) x.2 in
          let l : N.limit ≡ count = ap (λ (y : tables.Limits). y.limit) d in
          record { below = rw l (leb-true _ _ x.1); two = omega arith; many = ap (λ (y : tables.Limits). y.symbols) d }

      apart_mode_lem : mode_of N parts pair symbols ≡ apart_mode count root parts pair symbols
      apart_mode_lem = λ i. record { sized = sym tables_silent i; limit = (d i).limit; root = (d i).root; parts = parts; pair = pair; symbols = symbols }

      pub check_on : (b : List ℕ) (z : Result ⊤ Refusal) → z ≡ verdict_answer (after_sizes raw_shape (reader_of b (record { trees = k; limits = N })))
          → z ≡ verdict_answer (check word_shape (reader b k (mode_tables (apart_mode count root parts pair symbols))))
      check_on b z q =
          let M = apart_mode count root parts pair symbols in
          let sized = apart_trees in
          q ∙ ap verdict_answer
          (check_sized raw_shape (raw_reader b k (limit_rules (limits_of N))) (simp sized)
          ∙ sym (raw_check b k (mode_tables M) (limit_rules (limits_of N)) (mode_telling M) tables_silent (λ n u. ap (λ (y : tables.Limits). tables.row_eight y n u) (sym d))))

      pub walk_on : (b : List ℕ) (w : Walk) (call : WalkCall) (r : Step) → step_of r ≡ walk_step report_shape (report_reader_in b k (mode_of N parts pair symbols)) call (walk_of w)
          → step_of r ≡ walk_step report_shape (report_reader_in b k (apart_mode count root parts pair symbols)) call (walk_of w)
      walk_on b w call r q = q ∙ ap (λ (M : Mode). walk_step report_shape (report_reader_in b k M) call (walk_of w)) apart_mode_lem

  -- ---- where row 1 speaks

  module _ (h : not s ≡ true) (root : ℕ) (b : List ℕ) where
    speaks : (trees_sized k && sized_apart count parts pair symbols) ≡ false
    unfolding sizes_apart
    speaks = sym e ∙ not-true s h

    pub check_1 : (z : Result ⊤ Refusal) → z ≡ verdict_answer (refused 1 0) → z ≡ verdict_answer (check word_shape (reader b k (mode_tables (apart_mode count root parts pair symbols))))
    check_1 z q = q ∙ ap verdict_answer (check_unsized word_shape (reader b k (mode_tables (apart_mode count root parts pair symbols))) speaks)

    pub walk_1 : (w : Walk) (call : WalkCall) (r : Step) → step_of r ≡ (format.refused 1 0, walk_of w)
        → step_of r ≡ walk_step report_shape (report_reader_in b k (apart_mode count root parts pair symbols)) call (walk_of w)
    unfolding walk_step report_reader_in tree_reader_in
    walk_1 w call r q = q ∙ simp speaks

-- demand 3 over such a buffer, by list words
pub apart_rule : (b : List ℕ) (k : ℕ) (M : Mode) → check word_shape (reader b k (mode_tables M)) ≡ passed → WalkRule word_shape (reader b k (mode_tables M))
apart_rule b k M ok = walk_rule word_shape (mode_tables M).words b k (rules (mode_tables M)) ok

pub ruleset check_cases = (apart_some, check_1, check_on)

pub ruleset walk_cases = (apart_trees, apart_whole, walk_1, walk_on)
