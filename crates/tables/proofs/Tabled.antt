-- What the answers of `compute_span_frequencies_and_symbols` mean: the tables that it made are those of the list, and the writer's rows 1 to 5
-- are silent over them; it refuses a list that rows 1 to 4 refuse, and a run that is too short.
use Prim.Native.Nat.{ℕ, ◌*◌, ◌-◌, ◌%◌, ◌≤◌}
use mathlib.Core.Path.{◌≡◌, refl, sym, ap, ◌∙◌}
use mathlib.Core.List.{List}
use native.Mathlib.Omega.{arith}
use borrow.Author.Tests.{leb-true}
use lib.Dec.{leb, eqb}
use lib.ListN.{length, take, drop}
use Rattle.format.specs.Verdict.{Verdict, passed, refused, rule}
use Rattle.format.specs.Word.{put}
use Rattle.format.specs.Width.{part_size, tree_size}
use Rattle.format.specs.WordList.{list_count, list_sized, list_rules, list_rows}
use Rattle.format.specs.Writer.{list_verdict}
use Rattle.format.specs.MakeTables.{part_table, part_counts, symbol_table, symbol_counts, part_total, tables_verdict, tables_report}
use Rattle.format.proofs.Each.{and₃, both, rule_passed}
use Rattle.format.proofs.TableLaw.{part_words_lem, parts_most, part_counts_many, symbols_most, symbol_counts_many}
use Rattle.format.proofs.TableRuns as runs
use Rattle.format.proofs.TableRuns.{Room, made_sound, made_complete, made_short, made_for_writer, run_take, run_drop}
use Rattle.tree.specs.declared.refusal.Refusal.{Refusal}
use Rattle.tables.specs.Made.{tables_answer, made_of, TablesDone}
use Rattle.tables.specs.Tabled.{Tabled}
use Rattle.tables.specs.declared.make.Made.{Made}
use Rattle.std.specs.Prelude.{Result, Ok, Err}

-- ---- an answer tells its verdict

made_refused : {A : Type 0} (p s : ℕ) (x : Refusal) → made_of p s ≡ Err x → A
made_refused p s x e = let z : ◌≡◌ {A = ℕ} 0 1 = cc in absurd (omega arith)

same_made : (p s q t : ℕ) → made_of p s ≡ made_of q t → (p ≡ q) × (s ≡ t)
same_made p s q t e = (ap parts e, ap symbols e)
  where
    parts : Result Made Refusal → ℕ
    parts (Ok m) = m.parts
    parts (Err _) = 0

    symbols : Result Made Refusal → ℕ
    symbols (Ok m) = m.symbols
    symbols (Err _) = 0

same_refusal : (x y : Refusal) → ◌≡◌ {A = Result Made Refusal} (Err x) (Err y) → x ≡ y
same_refusal x y e = cc

answer_made : (l : List ℕ) (v : Verdict) (p s : ℕ) → tables_answer (tables_report l v) ≡ made_of p s
    → (v ≡ passed) × (part_total l ≡ p) × (length (symbol_table l) ≡ s)
unfolding tables_answer
answer_made l passed p s e = let z = same_made (part_total l) (length (symbol_table l)) p s e in (refl, z.0, z.1)
answer_made l (refused r n) p s e = made_refused p s _ (sym e)

answer_refused : (l : List ℕ) (v : Verdict) (x : Refusal) → tables_answer (tables_report l v) ≡ Err x → v ≡ refused x.number x.tree
unfolding tables_answer
answer_refused l passed x e = made_refused _ _ x e
answer_refused l (refused r n) x e = ap (λ (y : Refusal). refused y.number y.tree) (same_refusal _ x e)

-- ---- a run that begins with what was put

begins : (b b' vs : List ℕ) (n : ℕ) → b' ≡ put b 0 vs → n ≡ length vs → (take n b' ≡ vs) × (drop n b' ≡ drop n b)
begins b b' vs n e q = (rw (e, q) (run_take b vs), rw (e, q) (run_drop b vs))

-- ---- its answer r, and what the lent runs hold then

module _ (l a b c d : List ℕ) (r : Result Made Refusal) (a' b' c' d' : List ℕ) (done : TablesDone l a b c d r a' b' c' d') where
  abbrev verdict : Verdict
  verdict = tables_verdict l (length a) (length b) (length c) (length d)

  pub tabled : (p s : ℕ) → r ≡ made_of p s → Tabled l a b c d p s a' b' c' d'
  tabled p s e =
      let z = answer_made l verdict p s (sym done.answer ∙ e) in
      let v = z.0 in
      let n = z.1 in
      let m = part_words_lem l in
      let k = part_counts_many l in
      let x = begins a a' (part_table l) (part_size * p) (done.runs.parts ∙ rw v) (omega arith) in
      let y = begins b b' (part_counts l) (p - 2) (done.runs.part_tallies ∙ rw v) (omega arith) in
      let u = begins c c' (symbol_table l) s (done.runs.symbols ∙ rw v) (sym z.2) in
      let w = begins d d' (symbol_counts l) s (done.runs.symbol_tallies ∙ rw v) (sym (symbol_counts_many l ∙ z.2)) in
      record {
        part_number = sym n;
        symbol_number = sym z.2;
        parts = x.0;
        part_tallies = y.0;
        symbols = u.0;
        symbol_tallies = w.0;
        parts_behind = x.1;
        part_tallies_behind = y.1;
        symbols_behind = u.1;
        symbol_tallies_behind = w.1;
        rows = (made_sound l (length a) (length b) (length c) (length d) v).0;
        writes = (λ i. list_verdict (x.0 i) (u.0 i) l) ∙ made_for_writer l (length a) (length b) (length c) (length d) v;
      }

  -- it is not refused without a cause: the list has passed rows 1 to 4, and the four runs have room
  pub made_given : list_rows l ≡ passed → Room l (length a) (length b) (length c) (length d) → r ≡ made_of (part_total l) (length (symbol_table l))
  unfolding tables_answer
  made_given e h = done.answer ∙ rw (made_complete l (length a) (length b) (length c) (length d) e h)

  -- "Tables: as the writer, without 5."
  pub row_refused : (n t : ℕ) → list_rows l ≡ refused n t → r ≡ Err (record { number = n; tree = t })
  unfolding tables_answer
  row_refused n t e = done.answer ∙ rw (runs.made_refused l (length a) (length b) (length c) (length d) n t e)

  pub short_refused : list_rows l ≡ passed → (Room l (length a) (length b) (length c) (length d) → ⊥) → r ≡ Err (record { number = 6; tree = 0 })
  unfolding tables_answer
  short_refused e h = done.answer ∙ rw (made_short l (length a) (length b) (length c) (length d) e h)

  -- a refusal changes nothing
  pub refused_kept : (x : Refusal) → r ≡ Err x → (a' ≡ a) × (b' ≡ b) × (c' ≡ c) × (d' ≡ d)
  refused_kept x e =
      let v = answer_refused l verdict x (sym done.answer ∙ e) in
      (done.runs.parts ∙ rw v, done.runs.part_tallies ∙ rw v, done.runs.symbols ∙ rw v, done.runs.symbol_tallies ∙ rw v)

-- two parts a tree and two counts, a symbol and its count suffice
pub room_enough : (l : List ℕ) (a b c d : ℕ) → list_rows l ≡ passed → 2 * part_size * list_count l ≤ a → 2 * list_count l ≤ b → list_count l ≤ c → list_count l ≤ d → Room l a b c d
room_enough l a b c d e ha hb hc hd =
    let s = rule_passed (list_sized l) 1 0 (both (rule (list_sized l) 1 0) (list_rules l) e).0 in
    let k = leb-true 1 (list_count l) (and₃ (eqb (length l % tree_size) 0) (leb 1 (list_count l)) (leb (list_count l) 1048576) s).1 in
    let m = parts_most l in
    let w = part_words_lem l in
    let n = part_counts_many l in
    let y = symbols_most l in
    let q = symbol_counts_many l in
    record { parts = omega arith; part_tallies = omega arith; symbols = omega arith; symbol_tallies = omega arith }
