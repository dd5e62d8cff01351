-- `last_span` inside a buffer that the check passed: of each tree and what it holds.
use Prim.Native.Nat.{ℕ, ◌-◌, ◌≤◌, ◌<◌}
use mathlib.Core.Path.{◌≡◌, ap, ◌∙◌}
use mathlib.Core.List.{List}
use Rattle.std.specs.Prelude.{Option, Result}
use Rattle.format.specs.Verdict.{passed}
use Rattle.format.specs.Reader.{one}
use Rattle.format.specs.Walk.{skip}
use Rattle.format.specs.Plain.{Listing, plain_walk_go}
use Rattle.format.specs.Check.{listing}
use Rattle.format.specs.Buffer.{word_shape, own_reader, buffer_check}
use Rattle.format.specs.LastSpan.{end_span, last_span, end_loose, last_reported}
use Rattle.format.specs.Loose.{loose_at}
use Rattle.format.proofs.OwnLast.{own_last_within}
use Rattle.format.proofs.OwnReported.{own_last_reported_within}
use Rattle.tree.specs.declared.refusal.Refusal.{Refusal}
use Rattle.walk.specs.Walk.{walk_of}
use Rattle.walk.specs.Last.{last_of, last_words, LastFound}
use Rattle.walk.specs.declared.walk.Walk.{Walk}
use Rattle.walk.specs.declared.last_span.ReportedSpan.{ReportedSpan}

module _ (b : List ℕ) (k : ℕ) (parts symbols : List ℕ) (ok : buffer_check b k parts symbols ≡ passed) where
  abbrev L : Listing (List ℕ)
  L = listing word_shape (own_reader b k parts symbols)

  -- of trees n to m - 1, which are tree n and what it holds, all of them or from tree s on: that of the last one
  pub within_rule : (n m s : ℕ) → n < k → m ≡ plain_walk_go word_shape L skip n → n ≤ s → s < m
      → (w : Walk) → walk_of w ≡ record { place = L.place s; number = s; left = m - s }
      → (r : Result (Option ReportedSpan) Refusal) → LastFound b k parts symbols w r → last_words r ≡ one (end_span (L.tree (m - 1)))
  within_rule n m s h d g l w e r says = says.words ∙ ap (last_span b k parts symbols) e ∙ own_last_within b k parts symbols ok n m s h d g l

  -- with its report
  pub within_report_rule : (n m s : ℕ) → n < k → m ≡ plain_walk_go word_shape L skip n → n ≤ s → s < m
      → (w : Walk) → walk_of w ≡ record { place = L.place s; number = s; left = m - s }
      → (r : Result (Option ReportedSpan) Refusal) → LastFound b k parts symbols w r → last_of r ≡ one (end_span (L.tree (m - 1)), end_loose (L.tree (m - 1), loose_at b (L.place (m - 1))))
  within_report_rule n m s h d g l w e r says = says.exact ∙ ap (last_reported b k parts symbols) e ∙ own_last_reported_within b k parts symbols ok n m s h d g l
