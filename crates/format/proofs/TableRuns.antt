-- Making tables into lent runs: when it passes, what the runs hold, and that the writer takes the tables.
use Prim.Native.Nat.{ℕ, ◌+◌, ◌<◌, ◌≤◌}
use mathlib.Core.Path.{◌≡◌, refl, ap, ◌∙◌}
use mathlib.Core.Bool.{Bool, true, false, ◌&&◌}
use mathlib.Core.List.{List}
use native.Mathlib.Omega.{arith}
use native.Mathlib.Nat.{zero-add}
use lib.ListN.{length, get_or, take, drop, get_or-append}
use lib.Seq.{take-append_seam, drop-append_seam}
use lib.Dec.{leb}
use borrow.Author.Tests.{le-leb, leb-true}
use Rattle.format.specs.Verdict.{passed, refused, rule}
use Rattle.format.specs.Word.{put}
use Rattle.format.specs.WordList.{list_rows}
use Rattle.format.specs.Writer.{list_verdict}
use Rattle.format.specs.MakeTables.{part_table, part_counts, symbol_table, symbol_counts, tables_fit, tables_verdict}
use Rattle.format.proofs.Each.{and₄, both, rule_passed}
use Rattle.format.proofs.Put.{put_length, put_after}
use Rattle.format.proofs.OwnTables.{own_passes}

-- ---- the verdict

module _ (l : List ℕ) (a b c d : ℕ) where
  -- all four runs have room
  pub record Room : Type 0 where
    pub parts : length (part_table l) ≤ a
    pub part_tallies : length (part_counts l) ≤ b
    pub symbols : length (symbol_table l) ≤ c
    pub symbol_tallies : length (symbol_counts l) ≤ d

  -- passed: the list has passed its rows, and there is room
  pub made_sound : tables_verdict l a b c d ≡ passed → (list_rows l ≡ passed) × Room
  unfolding tables_verdict
  made_sound e =
      let x = both (list_rows l) (rule (tables_fit l a b c d) 6 0) e in
      let r = and₄ (leb (length (part_table l)) a) (leb (length (part_counts l)) b) (leb (length (symbol_table l)) c) (leb (length (symbol_counts l)) d)
      (rule_passed (tables_fit l a b c d) 6 0 x.1) in
      (x.0, record { parts = leb-true _ _ r.0; part_tallies = leb-true _ _ r.1; symbols = leb-true _ _ r.2; symbol_tallies = leb-true _ _ r.3 })

  pub made_complete : list_rows l ≡ passed → Room → tables_verdict l a b c d ≡ passed
  unfolding tables_verdict
  made_complete e r = rw e (simp (le-leb _ _ r.parts, le-leb _ _ r.part_tallies, le-leb _ _ r.symbols, le-leb _ _ r.symbol_tallies))

  -- a refusal of the list is the answer, whatever is lent
  pub made_refused : (r n : ℕ) → list_rows l ≡ refused r n → tables_verdict l a b c d ≡ refused r n
  unfolding tables_verdict
  made_refused r n e = rw e

  -- a run too short is 6 at tree 0
  pub made_short : list_rows l ≡ passed → (Room → ⊥) → tables_verdict l a b c d ≡ refused 6 0
  unfolding tables_verdict
  made_short e n =
      rw e
      (go (leb (length (part_table l)) a) (leb (length (part_counts l)) b) (leb (length (symbol_table l)) c) (leb (length (symbol_counts l)) d) refl refl refl refl)
    where
      go : (x y z w : Bool) → leb (length (part_table l)) a ≡ x → leb (length (part_counts l)) b ≡ y
          → leb (length (symbol_table l)) c ≡ z → leb (length (symbol_counts l)) d ≡ w
          → rule (x && y && z && w) 6 0 ≡ refused 6 0
      go false y z w p q r s = refl
      go true false z w p q r s = refl
      go true true false w p q r s = refl
      go true true true false p q r s = refl
      go true true true true p q r s =
          absurd (n (record { parts = leb-true _ _ p; part_tallies = leb-true _ _ q; symbols = leb-true _ _ r; symbol_tallies = leb-true _ _ s }))

  -- the writer's rows 1 to 5 pass the list over the tables that are made
  pub made_for_writer : tables_verdict l a b c d ≡ passed → list_verdict (part_table l) (symbol_table l) l ≡ passed
  made_for_writer e = own_passes l (made_sound e).0

-- ---- a lent run: its length stays, it begins with the result, and what stood behind that stays

module _ (b vs : List ℕ) (h : length vs ≤ length b) where
  pub run_length : length (put b 0 vs) ≡ length b
  run_length = put_length b 0 vs (omega arith)

  pub run_front : (i : ℕ) → i < length vs → get_or (put b 0 vs) i 0 ≡ get_or vs i 0
  unfolding put
  run_front i g = get_or-append vs (drop (0 + length vs) b) 0 i g

  pub run_behind : (i : ℕ) → length vs ≤ i → get_or (put b 0 vs) i 0 ≡ get_or b i 0
  run_behind i g = put_after b 0 vs (omega arith) i (omega arith)

module _ (b vs : List ℕ) where
  pub run_take : take (length vs) (put b 0 vs) ≡ vs
  unfolding put
  run_take = take-append_seam vs (drop (0 + length vs) b)

  pub run_drop : drop (length vs) (put b 0 vs) ≡ drop (length vs) b
  unfolding put
  run_drop = drop-append_seam vs (drop (0 + length vs) b) ∙ ap (λ (n : ℕ). drop n b) (zero-add (length vs))
