-- Laws for the functions that make both tables.
use Prim.Native.Nat.{ℕ, ◌+◌, ◌*◌, ◌%◌, ◌<◌, ◌≤◌}
use mathlib.Core.Path.{◌≡◌, refl, ap, ap₂, sym, ◌∙◌, subst}
use mathlib.Core.Bool.{Bool, true, false, ◌&&◌}
use mathlib.Core.List.{List}
use native.Mathlib.Omega.{arith}
use lib.ListN.{length}
use lib.Seq.{sets, sets-eq}
use lib.Dec.{leb, eqb}
use borrow.Author.Tests.{leb-true, le-leb}
use Rattle.std.specs.Prelude.{Result, Ok, Err, ⊤}
use Rattle.format.specs.Verdict as format
use Rattle.format.specs.Verdict.{passed, refused, rule}
use Rattle.format.specs.Word.{put}
use Rattle.format.specs.Width.{part_size, open_at, close_at, tree_size}
use Rattle.format.specs.Part.{part_words}
use Rattle.format.specs.WordList.{list_count, list_sized, list_rules, list_rows}
use Rattle.format.specs.MakeTables.{key_count, keys_of, table_keys, table_words, root_parts, part_table, part_counts, symbol_table, symbol_counts, tables_verdict}
use Rattle.format.proofs.Each.{both, rule_passed, and₃, and_left, and_right, true_false}
use Rattle.format.proofs.Put.{put_length}
use Rattle.format.proofs.TableKeys.{keys_many}
use Rattle.format.proofs.TableLaw.{parts_many, part_words_lem, symbols_many, part_counts_many, symbol_counts_many}
use Rattle.format.proofs.TableRuns as runs
use Rattle.format.proofs.TableRuns.{made_complete, made_refused, made_short}
use Rattle.pack.proofs.Store.{put_put}
use Rattle.tree.specs.Refusal.{verdict_answer}
use Rattle.tree.specs.declared.refusal.Refusal.{Refusal}
use Rattle.keys.specs.Keys.{part_in, place_in}
use Rattle.keys.specs.Runs.{Room}
use Rattle.entries.specs.Runs.{Made}
use Rattle.distinct.specs.Count.{ample}
use Rattle.tables.specs.Made.{tables_answer, made_of, PartsMade, TablesDone}
use Rattle.tables.specs.declared.make.Made.{Made as Sizes}
use Rattle.keys.proofs.Lists.{sets_append}
use Rattle.entries.proofs.TableLaw.{words_length}

-- ---- the root's two parts

pub root_stored : (l o o₁ o₂ : List ℕ) (at : ℕ) → o₁ ≡ sets o at (part_words (part_in l open_at)) → o₂ ≡ sets o₁ (at + part_size) (part_words (part_in l close_at))
    → o₂ ≡ sets o at (root_parts l)
unfolding part_in
root_stored l o o₁ o₂ at q r =
    r ∙ ap (λ (x : List ℕ). sets x (at + part_size) (part_words (part_in l close_at))) q ∙ sets_append (part_words (part_in l open_at)) (part_words (part_in l close_at)) o at

pub root_inside : (l : List ℕ) (j : ℕ) → 1 ≤ list_count l → j + part_size ≤ tree_size → j + part_size ≤ length l
root_inside l j h g = omega arith

pub ruleset root_cases = (root_stored, root_inside)

-- ---- the part table

ample_room : (l : List ℕ) (s : Bool) (more : ℕ) (w t : List ℕ) → ample s (length (keys_of l s)) more (length w) (length t) ≡ true
    → (place_in s (length (keys_of l s)) + more ≤ length w) × (length (keys_of l s) ≤ length t)
unfolding ample
ample_room l s more w t e = (
  leb-true _ _ (and_left (leb (place_in s (length (keys_of l s)) + more) (length w)) (leb (length (keys_of l s)) (length t)) e),
  leb-true _ _ (and_right (leb (place_in s (length (keys_of l s)) + more) (length w)) (leb (length (keys_of l s)) (length t)) e),
)

pub room_ample : (l : List ℕ) (s : Bool) (more : ℕ) (w t : List ℕ) → ample s (length (keys_of l s)) more (length w) (length t) ≡ true → Room l s w t
room_ample l s more w t e = let q = ample_room l s more w t e in record { words = omega (arith, q.0); tallies = q.1 }

sets_put : (b : List ℕ) (at : ℕ) (vs : List ℕ) → at + length vs ≤ length b → sets b at vs ≡ put b at vs
unfolding put
sets_put b at vs h = sets-eq vs b at h

module _ (l : List ℕ) (p : ℕ) (w w₁ t t₁ : List ℕ) (M : Made l false p w w₁ t t₁) where
  pub parts_made : (w₂ : List ℕ) → ample false (length (keys_of l false)) (2 * part_size) (length w) (length t) ≡ true → w₂ ≡ sets w₁ (part_size * p) (root_parts l)
      → PartsMade l (p + 2) w w₂ t t₁
  unfolding part_table part_counts place_in table_words
  parts_made w₂ e q =
      let n : length (table_keys l false) ≡ p = keys_many l false ∙ sym M.number in
      let lw : length (table_words l false) ≡ part_size * p = words_length l false (table_keys l false) ∙ ap (λ (x : ℕ). part_size * x) n in
      let room : part_size * length (keys_of l false) + 2 * part_size ≤ length w = (ample_room l false (2 * part_size) w t e).0 in
      let fit : part_size * p + 2 * part_size ≤ length w = omega (arith, M.number) in
      let len : length w₁ ≡ length w = ap length M.words ∙ put_length w 0 (table_words l false) (omega arith) in
      let z : 0 + part_size * p ≡ part_size * p = omega arith in
      record {
        number = let y = parts_many l in omega arith;
        words = q ∙ sets_put w₁ (part_size * p) (root_parts l) (omega arith) ∙ ap (λ (x : List ℕ). put x (part_size * p) (root_parts l)) M.words
            ∙ ap (λ (x : ℕ). put (put w 0 (table_words l false)) x (root_parts l)) (sym z)
            ∙ put_put w 0 (part_size * p) (table_words l false) (root_parts l) lw (omega arith);
        tallies = M.tallies;
      }

pub ruleset parts_cases = (room_ample, parts_made)

-- ---- both

rows_count : (l : List ℕ) → list_rows l ≡ passed → (1 ≤ list_count l) × (list_count l ≤ 1048576)
rows_count l e =
    let a = (both (rule (list_sized l) 1 0) (list_rules l) e).0 in
    let b = and₃ (eqb (length l % tree_size) 0) (leb 1 (list_count l)) (leb (list_count l) 1048576) (rule_passed (list_sized l) 1 0 a) in
    (leb-true _ _ b.1, leb-true _ _ b.2)

pub rows_some : (l : List ℕ) → list_rows l ≡ passed → 1 ≤ list_count l
rows_some l e = (rows_count l e).0

pub rows_most : (l : List ℕ) → list_rows l ≡ passed → list_count l ≤ 1048576
rows_most l e = (rows_count l e).1

pub rows_fit : (l : List ℕ) (s : Bool) → list_rows l ≡ passed → key_count l s < 4294967295
unfolding key_count
rows_fit l s e = go s
  where
    go : (s : Bool) → key_count l s < 4294967295
    go true = let m : list_count l ≤ 1048576 = (rows_count l e).1 in omega arith
    go false = let m : list_count l ≤ 1048576 = (rows_count l e).1 in omega arith

module _ (l a b c d : List ℕ) (e : list_rows l ≡ passed) where
  abbrev verdict : format.Verdict
  verdict = tables_verdict l (length a) (length b) (length c) (length d)

  sizes : (length (part_table l) ≡ part_size * length (keys_of l false) + 2 * part_size) × (length (part_counts l) ≡ length (keys_of l false))
      × (length (symbol_table l) ≡ length (keys_of l true)) × (length (symbol_counts l) ≡ length (keys_of l true))
  sizes =
      let k = keys_many l false in let m = keys_many l true in
      let p = parts_many l in let q = part_words_lem l in let r = part_counts_many l in
      let x = symbols_many l in let y = symbol_counts_many l in
      (omega arith, omega arith, omega arith, omega arith)

  module _ (ea : ample false (length (keys_of l false)) (2 * part_size) (length a) (length b) ≡ true) (ec : ample true (length (keys_of l true)) 0 (length c) (length d) ≡ true) where
    passes : verdict ≡ passed
    unfolding place_in
    passes =
        let s = sizes in
        let f : (part_size * length (keys_of l false) + 2 * part_size ≤ length a) × (length (keys_of l false) ≤ length b) = ample_room l false (2 * part_size) a b ea in
        let g : (length (keys_of l true) + 0 ≤ length c) × (length (keys_of l true) ≤ length d) = ample_room l true 0 c d ec in
        made_complete l (length a) (length b) (length c) (length d) e
        (record { parts = omega (arith, s.0, f.0); part_tallies = omega (arith, s.1, f.1); symbols = omega (arith, s.2, g.0); symbol_tallies = omega (arith, s.3, g.1) })

    pub both_made : (p s x y : ℕ) (a' b' c' d' : List ℕ) → PartsMade l p a a' b b' → Made l true s c c' d d' → x ≡ p → y ≡ s
        → TablesDone l a b c d (made_of x y) a' b' c' d'
    unfolding tables_answer symbol_table symbol_counts
    both_made p s x y a' b' c' d' P S i j =
        let v = passes in
        let n : s ≡ length (symbol_table l) = S.number ∙ sym sizes.2 in
        record {
          answer = rw v (ap₂ made_of (i ∙ P.number) (j ∙ n));
          runs = record {
            verdict = refl;
            parts = P.words ∙ rw v;
            part_tallies = P.tallies ∙ rw v;
            symbols = S.words ∙ rw v;
            symbol_tallies = S.tallies ∙ rw v;
          };
        }

-- ---- refusals

module _ (l a b c d : List ℕ) (r n : ℕ) (v : tables_verdict l (length a) (length b) (length c) (length d) ≡ refused r n) where
  refused_done : TablesDone l a b c d (Err (record { number = r; tree = n })) a b c d
  unfolding tables_answer
  refused_done = record {
    answer = rw v;
    runs = record { verdict = refl; parts = rw v; part_tallies = rw v; symbols = rw v; symbol_tallies = rw v };
  }

module _ (l a b c d : List ℕ) (e : list_rows l ≡ passed) where
  short_parts : ample false (length (keys_of l false)) (2 * part_size) (length a) (length b) ≡ false → runs.Room l (length a) (length b) (length c) (length d) → ⊥
  unfolding ample place_in
  short_parts f R =
      let s = sizes l a b c d e in
      let x : part_size * length (keys_of l false) + 2 * part_size ≤ length a = omega (arith, s.0, R.parts) in
      let y : length (keys_of l false) ≤ length b = omega (arith, s.1, R.part_tallies) in
      true_false (leb (part_size * length (keys_of l false) + 2 * part_size) (length a) && leb (length (keys_of l false)) (length b)) (simp (le-leb _ _ x, le-leb _ _ y)) f

  short_symbols : ample true (length (keys_of l true)) 0 (length c) (length d) ≡ false → runs.Room l (length a) (length b) (length c) (length d) → ⊥
  unfolding ample place_in
  short_symbols f R =
      let s = sizes l a b c d e in
      let x : length (keys_of l true) + 0 ≤ length c = omega (arith, s.2, R.symbols) in
      let y : length (keys_of l true) ≤ length d = omega (arith, s.3, R.symbol_tallies) in
      true_false (leb (length (keys_of l true) + 0) (length c) && leb (length (keys_of l true)) (length d)) (simp (le-leb _ _ x, le-leb _ _ y)) f

  module _ (q : Bool) where
    pub parts_6 : q ≡ ample false (length (keys_of l false)) (2 * part_size) (length a) (length b) → q ≡ false
        → TablesDone l a b c d (Err (record { number = 6; tree = 0 })) a b c d
    parts_6 f h = refused_done l a b c d 6 0 (made_short l (length a) (length b) (length c) (length d) e (short_parts (sym f ∙ h)))

    pub symbols_6 : q ≡ ample true (length (keys_of l true)) 0 (length c) (length d) → q ≡ false
        → TablesDone l a b c d (Err (record { number = 6; tree = 0 })) a b c d
    symbols_6 f h = refused_done l a b c d 6 0 (made_short l (length a) (length b) (length c) (length d) e (short_symbols (sym f ∙ h)))

pub told : (x b : Bool) → b ≡ x → b ≡ true → x ≡ true
told x b e h = sym e ∙ h

pub ruleset make_cases = (told, rows_some, rows_fit, parts_6, symbols_6)

-- ---- rows 1 to 4

pub rows_passed : (l : List ℕ) (r : Result ⊤ Refusal) → r ≡ verdict_answer (list_rows l) → r ≡ Ok tt → list_rows l ≡ passed
unfolding verdict_answer
rows_passed l r e h = go (list_rows l) (sym e ∙ h)
  where
    number : Result ⊤ Refusal → ℕ
    number (Ok _) = 0
    number (Err z) = 1

    go : (v : format.Verdict) → verdict_answer v ≡ Ok tt → v ≡ passed
    go passed q = refl
    go (refused x y) q = let z : ◌≡◌ {A = ℕ} 1 0 = ap number q in absurd (omega arith)

pub rows_refused : (l a b c d : List ℕ) (r : Result ⊤ Refusal) (why : Refusal) → r ≡ verdict_answer (list_rows l) → r ≡ Err why
    → TablesDone l a b c d (Err why) a b c d
unfolding verdict_answer
rows_refused l a b c d r why e h = go (list_rows l) refl (sym e ∙ h)
  where
    number : Result ⊤ Refusal → ℕ
    number (Ok _) = 0
    number (Err z) = 1

    answer : Result ⊤ Refusal → Result Sizes Refusal
    answer (Ok _) = Err why
    answer (Err z) = Err z

    go : (v : format.Verdict) → list_rows l ≡ v → verdict_answer v ≡ Err why → TablesDone l a b c d (Err why) a b c d
    go passed q k = let z : ◌≡◌ {A = ℕ} 0 1 = ap number k in absurd (omega arith)
    go (refused x y) q k =
        subst (λ (u : Result Sizes Refusal). TablesDone l a b c d u a b c d) (ap answer k)
        (refused_done l a b c d x y (made_refused l (length a) (length b) (length c) (length d) x y q))

pub ruleset report_cases = (rows_passed, rows_refused)
