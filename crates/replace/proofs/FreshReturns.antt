-- One law for each return of the functions of src/fresh.rt, with premises as the code's tests and calls give them.
use Prim.Native.Nat.{ℕ, ◌+◌, ◌*◌, ◌-◌, ◌/◌, ◌<◌, ◌≤◌}
use mathlib.Core.Bool.{Bool, true, false, not, ◌&&◌}
use mathlib.Core.Path.{◌≡◌, refl, sym, ap, ◌∙◌, subst, subst₃}
use mathlib.Core.List.{List, [], ◌∷◌, ◌++◌}
use native.Mathlib.Omega.{arith}
use borrow.Author.Tests.{le-leb, lt-leb, leb-true, eq-eqb, ne_eqb, eqb-true, eqb-false, not-true, not-false}
use lib.Dec.{leb, eqb}
use lib.ListN.{length, take, drop, length-drop}
use lib.Seq.{take_all}
use Rattle.std.proofs.Common.{Result, Ok, Err}
use Rattle.format.specs.Verdict.{passed, refused, rule}
use Rattle.format.specs.Word.{put}
use Rattle.format.specs.Width.{part_size}
use Rattle.format.specs.Write.{work_words}
use Rattle.format.specs.WordList.{list_count, list_rows}
use Rattle.format.specs.Writer.{list_verdict, packed, trees, work_verdict, writer_verdict}
use Rattle.format.specs.MakeTables.{keys_of, part_table, part_counts, symbol_table, symbol_counts, part_total}
use Rattle.format.specs.Replace.{fresh_bytes, out_fits, refusal}
use Rattle.format.specs.Unpack.{table_work, count_work}
use Rattle.format.proofs.Each.{true_false, and_left, and_right, rule_passed, rule_refused}
use Rattle.format.proofs.Kept.{kept}
use Rattle.format.proofs.OwnTables.{own_passes}
use Rattle.format.proofs.Put.{put_length, put_there, put_behind}
use Rattle.format.proofs.TableKeys.{keys_many}
use Rattle.format.proofs.TableLaw.{parts_many, part_words_lem, parts_most, part_counts_many, symbols_many, symbols_most, symbol_counts_many}
use Rattle.format.proofs.WriteSize.{work_size}
use Rattle.pack.proofs.Store.{put_none}
use Rattle.tree.specs.declared.refusal.Refusal.{Refusal}
use Rattle.tree.proofs.Answers.{report_wrote, report_refused}
use Rattle.keys.specs.Keys.{place_in}
use Rattle.keys.specs.Runs.{Room}
use Rattle.entries.specs.Runs.{Made}
use Rattle.distinct.specs.Count.{ample}
use Rattle.tables.specs.Made.{PartsMade}
use Rattle.tables.proofs.MakeReturns.{rows_some, rows_most, rows_fit}
use Rattle.writer.specs.Written.{Written}
use Rattle.replace.specs.Report.{told_sizes, replace_answer}
use Rattle.replace.specs.Own.{OwnTables}
use Rattle.replace.specs.Fresh.{symbols_at, SymbolsMade, Held, Tabled, Put}
use Rattle.replace.specs.declared.report.Sizes.{Sizes}
use Rattle.replace.specs.declared.fresh.Counted.{Counted}
use Rattle.replace.proofs.Parts.{part_back}

-- ---- the symbol table

module _ (l : List ℕ) (at : ℕ) (t c : List ℕ) (rows : list_rows l ≡ passed) (h : at + list_count l ≤ length t) (g : count_work (list_count l) ≤ length c) where
  -- the part that is lent is all from `at` on
  part_is : take (length t - at) (drop at t) ≡ drop at t
  part_is = let d = length-drop at t in take_all (length t - at) (drop at t) (omega arith)

  pub symbol_room : Room l true (take (length t - at) (drop at t)) c
  unfolding place_in
  symbol_room =
      let k = keys_many l true in
      let m = symbols_many l in
      let n = symbols_most l in
      let d = length-drop at t in
      let e : length (take (length t - at) (drop at t)) ≡ length (drop at t) = ap length part_is in
      record { words = omega arith; tallies = omega arith }

  pub symbols_made : (r : ℕ) (w c' : List ℕ) → Made l true r (take (length t - at) (drop at t)) w c c' → SymbolsMade l at r t (take at t ++ (w ++ drop (length t - at) (drop at t))) c c'
  unfolding symbol_table symbol_counts
  symbols_made r w c' M =
      record {
        number = M.number ∙ sym (keys_many l true) ∙ sym (symbols_many l);
        words = part_back t at (symbol_table l) (omega arith) w (M.words ∙ ap (λ (x : List ℕ). put x 0 (symbol_table l)) part_is);
        tallies = M.tallies;
      }

pub ruleset symbol_cases = (rows_fit, rows_most, symbol_room, symbols_made)

-- ---- both tables

module _ (l : List ℕ) (t c : List ℕ) (rows : list_rows l ≡ passed) (h : table_work (list_count l) ≤ length t) (g : count_work (list_count l) ≤ length c) where
  pub symbols_inside : (at : ℕ) → at ≡ symbols_at (list_count l) → at + list_count l ≤ length t
  symbols_inside at e = omega arith

  module _ (at s : ℕ) (t₁ c₁ : List ℕ) (e : at ≡ symbols_at (list_count l)) (S : SymbolsMade l at s t t₁ c c₁) where
    symbols_few : length (symbol_table l) ≤ list_count l
    symbols_few = let m = symbols_most l in omega arith

    parts_few : length (part_table l) ≤ symbols_at (list_count l)
    parts_few =
        let k = rows_some l rows in
        let m = parts_most l in
        let n = part_words_lem l in
        omega arith

    tables_kept : length t₁ ≡ length t
    tables_kept = ap length S.words ∙ put_length t at (symbol_table l) (let m = symbols_few in omega arith)

    counts_kept : length c₁ ≡ length c
    counts_kept = ap length S.tallies ∙ put_length c 0 (symbol_counts l) (let m = symbols_few in let n = symbol_counts_many l in omega arith)

    pub parts_ample : ample false (length (keys_of l false)) (2 * part_size) (length t₁) (length c₁) ≡ true
    unfolding ample place_in
    parts_ample =
        let k = rows_some l rows in
        let m = parts_most l in
        let n = parts_many l in
        let q = keys_many l false in
        let x = tables_kept in
        let y = counts_kept in
        let a : part_size * length (keys_of l false) + 2 * part_size ≤ length t₁ = omega arith in
        let b : length (keys_of l false) ≤ length c₁ = omega arith in
        simp (le-leb _ _ a, le-leb _ _ b)

    pub both_made : (p : ℕ) (t₂ c₂ : List ℕ) → PartsMade l p t₁ t₂ c₁ c₂ → (r : Counted) → r ≡ record { parts = p; symbols = s } → Tabled l r t t₂ c c₂
    both_made p t₂ c₂ P r q = subst (λ (x : Counted). Tabled l x t t₂ c c₂) (sym q) all
      where
        front : length (part_table l) ≡ part_size * p
        front = part_words_lem l ∙ ap (λ (x : ℕ). part_size * x) (sym P.number)

        parts_behind_lem : (n : ℕ) → length (part_table l) ≤ n → drop n t₂ ≡ drop n t₁
        parts_behind_lem n i = ap (drop n) P.words ∙ put_behind t₁ 0 (part_table l) (omega arith) n (omega arith)

        all : Tabled l (record { parts = p; symbols = s }) t t₂ c c₂
        all =
            let x = symbols_few in
            let y = parts_few in
            let m = symbol_counts_many l in
            let n = part_counts_many l in
            let v = part_words_lem l in
            let i : length t₂ ≡ length t₁ = ap length P.words ∙ put_length t₁ 0 (part_table l) (let o = tables_kept in omega arith) in
            let o = tables_kept in
            record {
              held = record {
                room = omega arith;
                parts = P.number;
                symbols = S.number;
                part_words = ap (λ (j : ℕ). take j t₂) (sym front) ∙ ap (take (length (part_table l))) P.words ∙ put_there t₁ 0 (part_table l) (omega arith);
                symbol_words = ap (λ (j : ℕ). take j (drop (symbols_at (list_count l)) t₂)) S.number
                    ∙ ap (take (length (symbol_table l))) (parts_behind_lem (symbols_at (list_count l)) y ∙ ap (λ (j : ℕ). drop j t₁) (sym e) ∙ ap (drop at) S.words)
                    ∙ put_there t at (symbol_table l) (omega arith);
              };
              tables_behind = parts_behind_lem (table_work (list_count l)) (omega arith) ∙ ap (drop (table_work (list_count l))) S.words
                  ∙ put_behind t at (symbol_table l) (omega arith) (table_work (list_count l)) (omega arith);
              counts_behind = ap (drop (count_work (list_count l))) P.tallies ∙ put_behind c₁ 0 (part_counts l) (omega arith) (count_work (list_count l)) (omega arith)
                  ∙ ap (drop (count_work (list_count l))) S.tallies ∙ put_behind c 0 (symbol_counts l) (omega arith) (count_work (list_count l)) (omega arith);
            }

pub ruleset table_cases = (rows_some, rows_fit, rows_most, symbols_inside, parts_ample, both_made, kept)

-- ---- a list over its own tables

module _ (l parts symbols : List ℕ) (T : OwnTables l parts symbols) where
  pub own_verdict : list_verdict parts symbols l ≡ passed
  own_verdict = (λ i. list_verdict (T.parts i) (T.symbols i) l) ∙ own_passes l T.rows

  pub own_bytes : packed parts symbols l ≡ fresh_bytes l
  own_bytes = λ i. packed (T.parts i) (T.symbols i) l

  pub own_parts : length parts / part_size ≡ part_total l
  own_parts = ap (λ (j : List ℕ). length j / part_size) T.parts

  pub own_symbols : length symbols ≡ length (symbol_table l)
  own_symbols = ap length T.symbols

-- ---- the outputs

short_of : (a b d : Bool) → (b && d) ≡ false → (a && b && d) ≡ false
short_of true b d e = e
short_of false b d e = refl

false_and : (a b : Bool) → a ≡ false → (a && b) ≡ false
false_and true b e = true_false true refl e
false_and false b e = refl

module _ (l parts symbols c x y z : List ℕ) (T : OwnTables l parts symbols) where
  none_put : out_fits l x y z ≡ false → (c' : List ℕ) → drop (count_work (list_count l)) c' ≡ drop (count_work (list_count l)) c
      → Put l x y z (Err (record { number = 6; tree = 0 })) c c' x y z
  unfolding replace_answer
  none_put f c' k = record { outputs = record { answer = rw f; bytes = rw f; parts = rw f; symbols = rw f }; counts_behind = k }

  pub parts_short : length y < length parts → Put l x y z (Err (record { number = 6; tree = 0 })) c c x y z
  parts_short h =
      let n : length parts ≡ length (part_table l) = ap length T.parts in
      let f : leb (length (part_table l)) (length y) ≡ false = lt-leb (length (part_table l)) (length y) (omega arith) in
      none_put (short_of (leb (length (fresh_bytes l)) (length x)) (leb (length (part_table l)) (length y)) (leb (length (symbol_table l)) (length z)) (false_and _ _ f)) c refl

  module _ (hy : length parts ≤ length y) where
    room_parts : leb (length (part_table l)) (length y) ≡ true
    room_parts =
        let n : length parts ≡ length (part_table l) = ap length T.parts in
        le-leb (length (part_table l)) (length y) (omega arith)

    pub symbols_short : length z < length symbols → Put l x y z (Err (record { number = 6; tree = 0 })) c c x y z
    symbols_short h =
        let n : length symbols ≡ length (symbol_table l) = ap length T.symbols in
        let f : leb (length (symbol_table l)) (length z) ≡ false = lt-leb (length (symbol_table l)) (length z) (omega arith) in
        let e = room_parts in
        none_put (short_of (leb (length (fresh_bytes l)) (length x)) (leb (length (part_table l)) (length y)) (leb (length (symbol_table l)) (length z)) (simp (e, f))) c refl

    module _ (hz : length symbols ≤ length z) (g : count_work (list_count l) ≤ length c) (r : Result ℕ Refusal) (c' x' : List ℕ) (w : Written parts symbols l c x r c' x') where
      -- row 6 is silent on the work words
      works : work_verdict parts symbols l c x ≡ passed
      works = simp (own_verdict l parts symbols T, le-leb (list_count l + 1) (length c) (omega arith))

      counts_behind_lem : drop (count_work (list_count l)) c' ≡ drop (count_work (list_count l)) c
      counts_behind_lem =
          let v = works in
          let m = work_size parts symbols l in
          ap (drop (count_work (list_count l))) (w.works ∙ rw v)
          ∙ put_behind c 0 (work_words (trees parts symbols l)) (omega arith) (count_work (list_count l)) (omega arith)

      verdict_is : writer_verdict parts symbols l c x ≡ rule (leb (length (fresh_bytes l)) (length x)) 6 0
      verdict_is = let v = works in let q = own_bytes l parts symbols T in rw (v, q)

      six : (why : Refusal) → rule (leb (length (fresh_bytes l)) (length x)) 6 0 ≡ refused why.number why.tree
          → (leb (length (fresh_bytes l)) (length x) ≡ false) × (record { number = 6; tree = 0 } ≡ why)
      six why e =
          let x = rule_refused (leb (length (fresh_bytes l)) (length x)) 6 0 why.number why.tree e in
          (x.0, λ k. record { number = x.1 k; tree = x.2 k })

      pub bytes_short : (why : Refusal) → r ≡ Err why → Put l x y z (Err why) c c' x' y z
      bytes_short why q =
          let v = report_refused (writer_verdict parts symbols l c x) (length (packed parts symbols l)) why (sym w.answer ∙ q) in
          let e = six why (sym verdict_is ∙ v) in
          let f = false_and (leb (length (fresh_bytes l)) (length x) && leb (length (part_table l)) (length y)) (leb (length (symbol_table l)) (length z))
          (false_and (leb (length (fresh_bytes l)) (length x)) (leb (length (part_table l)) (length y)) e.0) in
          let o : x' ≡ x = w.outs ∙ rw v in
          subst (λ (u : List ℕ). Put l x y z (Err why) c c' u y z) (sym o)
          (subst (λ (u : Refusal). Put l x y z (Err u) c c' x y z) e.1 (none_put f c' counts_behind_lem))

      pub all_put : (n : ℕ) → r ≡ Ok n → (y' z' : List ℕ) → y' ≡ put y 0 parts → z' ≡ put z 0 symbols
          → Put l x y z (Ok (record { bytes = n; parts = length parts / part_size; symbols = length symbols })) c c' x' y' z'
      unfolding replace_answer
      all_put n q y' z' py pz =
          let v = report_wrote (writer_verdict parts symbols l c x) (length (packed parts symbols l)) n (sym w.answer ∙ q) in
          let b : leb (length (fresh_bytes l)) (length x) ≡ true = rule_passed (leb (length (fresh_bytes l)) (length x)) 6 0 (sym verdict_is ∙ v.0) in
          let ns : length symbols ≡ length (symbol_table l) = own_symbols l parts symbols T in
          let dy = room_parts in
          let dz : leb (length (symbol_table l)) (length z) ≡ true = le-leb (length (symbol_table l)) (length z) (omega arith) in
          let f : out_fits l x y z ≡ true = simp (b, dy, dz) in
          let u : n ≡ length (fresh_bytes l) = sym v.1 ∙ ap length (own_bytes l parts symbols T) in
          let k = own_parts l parts symbols T in
          let h = own_bytes l parts symbols T in
          record {
            outputs = record {
              answer = (λ i. told_sizes (u i) (k i) (ns i)) ∙ rw f;
              bytes = w.outs ∙ rw (v.0, f, h);
              parts = py ∙ rw f (ap (put y 0) T.parts);
              symbols = pz ∙ rw f (ap (put z 0) T.symbols);
            };
            counts_behind = counts_behind_lem;
          }

pub ruleset put_cases = (bytes_short, all_put)
