-- The preview beside replacing: one answer wherever the outputs have room, and 6 from work words alone.
use Prim.Native.Nat.{ℕ}
use mathlib.Core.Bool.{Bool, true, false}
use mathlib.Core.Path.{◌≡◌, refl, sym, ap, ◌∙◌}
use mathlib.Core.List.{List}
use mathlib.Core.Logic.{◌↔◌}
use native.Mathlib.Omega.{arith}
use borrow.Author.Tests.{le-leb}
use lib.ListN.{length}
use Rattle.format.specs.Verdict.{Verdict, passed, refused, ◌and_then◌, rule}
use Rattle.format.specs.MakeTables.{part_table, symbol_table}
use Rattle.format.specs.Replace.{fresh_bytes, exchanged, out_fits, report_of, replace_verdict, replace_work, replace_out, replace_report}
use Rattle.format.specs.Preview.{preview_report}
use Rattle.format.specs.Unpack.{work_fits}
use Rattle.format.proofs.Each.{true_false}
use Rattle.format.proofs.TreeRefusal.{own_no_six}
use Rattle.format.proofs.Exchange.{ReplaceRow, of_check, no_leaf, bad_leaf, short_work, short_out, refused_row, row_refused}

-- of the work words it matters only whether they are long enough
pub work_same : (b : List ℕ) (k : ℕ) (parts symbols : List ℕ) (n : ℕ) (w : List ℕ) (a c d a₂ c₂ d₂ : ℕ) → work_fits k a c d ≡ work_fits k a₂ c₂ d₂
    → replace_work b k parts symbols n w a c d ≡ replace_work b k parts symbols n w a₂ c₂ d₂
unfolding replace_work
work_same b k parts symbols n w a c d a₂ c₂ d₂ e = ap (λ (u : Bool). replace_verdict b k parts symbols n w and_then rule u 6 0) e

module _ (b : List ℕ) (k : ℕ) (parts symbols : List ℕ) (n : ℕ) (w : List ℕ) (a c d : ℕ) where
  abbrev new : List ℕ
  new = exchanged b k parts symbols n w

  abbrev worked : Verdict
  worked = replace_work b k parts symbols n w a c d

  module _ (x y z : List ℕ) (room : replace_work b k parts symbols n w a c d ≡ passed → out_fits (exchanged b k parts symbols n w) x y z ≡ true) where
    -- outputs with room refuse nothing
    pub ample_out : replace_out b k parts symbols n w a c d x y z ≡ replace_work b k parts symbols n w a c d
    unfolding replace_out
    ample_out = go worked refl
      where
        go : (v : Verdict) → worked ≡ v → replace_out b k parts symbols n w a c d x y z ≡ worked
        go passed e = let f = room e in simp (e, f)
        go (refused r m) e = rw e

    -- "Its answer is the one that Ticket 1 gives on a copy with room enough, refusals included"
    pub preview_same : replace_report b k parts symbols n w a c d x y z ≡ preview_report b k parts symbols n w a c d
    preview_same = ap (report_of new) ample_out

  -- the new buffer and tables themselves as outputs: that is room enough
  itself_fits : out_fits new (fresh_bytes new) (part_table new) (symbol_table new) ≡ true
  itself_fits =
      simp (le-leb (length (fresh_bytes new)) (length (fresh_bytes new)) (omega arith), le-leb (length (part_table new)) (length (part_table new)) (omega arith), le-leb (length (symbol_table new)) (length (symbol_table new)) (omega arith))

  -- the rows of ticket 1 where the outputs are long enough
  abbrev pub PreviewRow : ℕ → ℕ → Type 0
  PreviewRow = ReplaceRow b k parts symbols n w a c d (fresh_bytes (exchanged b k parts symbols n w)) (part_table (exchanged b k parts symbols n w)) (symbol_table (exchanged b k parts symbols n w))

  as_work : replace_out b k parts symbols n w a c d (fresh_bytes new) (part_table new) (symbol_table new) ≡ worked
  as_work = ample_out (fresh_bytes new) (part_table new) (symbol_table new) (λ e. itself_fits)

  -- each refusal is given exactly where ticket 1's row holds
  pub preview_refused : (r m : ℕ) → (replace_work b k parts symbols n w a c d ≡ refused r m) ↔ PreviewRow r m
  preview_refused r m = (
    λ e. refused_row b k parts symbols n w a c d (fresh_bytes new) (part_table new) (symbol_table new) r m (as_work ∙ e),
    λ h. sym as_work ∙ row_refused b k parts symbols n w a c d (fresh_bytes new) (part_table new) (symbol_table new) r m h,
  )

  -- "6 can then come only from a short work run"
  pub six_short : (m : ℕ) → replace_work b k parts symbols n w a c d ≡ refused 6 m → (m ≡ 0) × (replace_verdict b k parts symbols n w ≡ passed) × (work_fits k a c d ≡ false)
  six_short m e = go 6 m ((preview_refused 6 m).0 e) refl
    where
      go : (r m : ℕ) → PreviewRow r m → r ≡ 6 → (m ≡ 0) × (replace_verdict b k parts symbols n w ≡ passed) × (work_fits k a c d ≡ false)
      go r m (of_check s t f) i = absurd (own_no_six b k parts symbols s t f i)
      go r m (no_leaf p f) i = absurd (omega arith)
      go r m (bad_leaf p q f) i = absurd (omega arith)
      go r m (short_work p f) i = (refl, p, f)
      go r m (short_out p f) i = true_false _ itself_fits f
