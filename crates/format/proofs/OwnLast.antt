-- The last span of each tree of a buffer that the check passed, in document 01's table mode.
use Prim.Native.Nat.{ℕ, ◌-◌, ◌≤◌, ◌<◌}
use mathlib.Core.Bool.{true}
use mathlib.Core.Path.{◌≡◌, ap}
use mathlib.Core.List.{List}
use Rattle.format.specs.Verdict.{passed}
use Rattle.format.specs.Reader.{Reader, one}
use Rattle.format.specs.Walk.{skip}
use Rattle.format.specs.Plain.{Listing, sub, plain_walk_go}
use Rattle.format.proofs.ListRead.{Reads}
use Rattle.format.specs.Check.{listing, stored}
use Rattle.format.specs.Tables.{rules, own_tables}
use Rattle.format.specs.Buffer.{word_shape, reader, own_reader, buffer_check}
use Rattle.format.specs.LastSpan.{end_span, span_answer, last_span}
use Rattle.format.proofs.CheckLaw.{admitted_reads}
use Rattle.format.proofs.Reading.{forward}
use Rattle.format.proofs.LastSpan.{last_within_lem, last_empty}
use Rattle.format.proofs.Own.{own_sound}

module _ (b : List ℕ) (k : ℕ) (parts symbols : List ℕ) (ok : buffer_check b k parts symbols ≡ passed) where
  abbrev R : Reader (List ℕ)
  R = own_reader b k parts symbols

  abbrev L : Listing (List ℕ)
  L = listing word_shape R

  own_reads : Reads word_shape R L (stored word_shape R)
  unfolding own_reader
  own_reads =
      let T = own_tables parts symbols in
      admitted_reads word_shape (reader b k T) (forward word_shape T.words b k (rules T)) (own_sound b k parts symbols ok)

  -- "The last span of a nonempty subtree is that of its last descendant; of an empty one, its close": of tree n and what it holds, trees n to m - 1, m being
  -- where a step past it leads; all of them or from tree s on
  pub own_last_within : (n m s : ℕ) → n < k → m ≡ plain_walk_go word_shape L skip n → n ≤ s → s < m
      → last_span b k parts symbols (record { place = L.place s; number = s; left = m - s }) ≡ one (end_span (L.tree (m - 1)))
  unfolding own_reader
  own_last_within n m s h d g l = ap span_answer (last_within_lem word_shape R L (stored word_shape R) own_reads (own_sound b k parts symbols ok).nested n m h d s g l)

  -- … and the last one is a leaf or an empty subtree
  pub own_last_empty : (n m : ℕ) → n < k → m ≡ plain_walk_go word_shape L skip n → sub word_shape L (m - 1) ≡ true → word_shape.count (L.tree (m - 1)) ≡ 0
  unfolding own_reader
  own_last_empty n m h d = last_empty word_shape R L (stored word_shape R) own_reads (own_sound b k parts symbols ok).nested n m h d
