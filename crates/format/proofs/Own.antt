-- Document 01's table mode, by its one shut reader: what the check passes, demand 2, demand 3 and the last span over it.
use Prim.Native.Nat.{ℕ, ◌+◌, ◌-◌, ◌≤◌, ◌<◌}
use mathlib.Core.Bool.{◌&&◌}
use mathlib.Core.Path.{◌≡◌, ap}
use mathlib.Core.List.{List}
use borrow.Author.Tests.{leb-true}
use lib.Dec.{leb}
use Rattle.format.specs.Verdict.{passed}
use Rattle.format.specs.Reader.{one}
use Rattle.format.specs.Walk.{fresh_walk}
use Rattle.format.specs.Check.{Admitted, listing, place_of, stored}
use Rattle.format.specs.Rule.{WalkRule}
use Rattle.format.specs.Tree.{tree_at}
use Rattle.format.specs.Tables.{rules, own_tables}
use Rattle.format.specs.Buffer.{word_shape, reader, own_reader, buffer_check}
use Rattle.format.specs.LastSpan.{end_span, span_answer, last_span}
use Rattle.format.specs.WordList.{list_count}
use Rattle.format.specs.Writer.{list_verdict, packed}
use Rattle.format.proofs.Each.{and_left}
use Rattle.format.proofs.CheckLaw.{check_sound, check_complete, admitted_reads}
use Rattle.format.proofs.Reading.{Clean, each_clean, forward, walk_rule}
use Rattle.format.proofs.LastSpan.{last_whole}
use Rattle.format.proofs.WriterLaw.{packed_passes}

module _ (b : List ℕ) (k : ℕ) (parts symbols : List ℕ) where
  -- THE CHECK passes exactly what is admitted
  pub own_sound : buffer_check b k parts symbols ≡ passed → Admitted word_shape (own_reader b k parts symbols)
  own_sound = check_sound word_shape (own_reader b k parts symbols)

  pub own_complete : Admitted word_shape (own_reader b k parts symbols) → buffer_check b k parts symbols ≡ passed
  own_complete = check_complete word_shape (own_reader b k parts symbols)

  module _ (ok : buffer_check b k parts symbols ≡ passed) where
    -- each tree stands there in some form, and rows 2, 7 and 8 are silent on it
    pub own_clean : (n : ℕ) → n < k
        → Clean (own_tables parts symbols).words (rules (own_tables parts symbols)) n (place_of word_shape (own_reader b k parts symbols) n) (tree_at b (place_of word_shape (own_reader b k parts symbols) n))
        ((listing word_shape (own_reader b k parts symbols)).tree n) (place_of word_shape (own_reader b k parts symbols) (n + 1)) (stored word_shape (own_reader b k parts symbols) n)
    unfolding own_reader
    own_clean = each_clean word_shape (own_tables parts symbols).words b k (rules (own_tables parts symbols)) (own_sound ok)

    -- DEMAND 3
    pub own_walk_rule : WalkRule word_shape (own_reader b k parts symbols)
    unfolding own_reader
    own_walk_rule = walk_rule word_shape (own_tables parts symbols).words b k (rules (own_tables parts symbols)) ok

    pub own_last_span : last_span b k parts symbols (fresh_walk (own_reader b k parts symbols)) ≡ one (end_span ((listing word_shape (own_reader b k parts symbols)).tree (k - 1)))
    unfolding own_reader
    own_last_span =
        let T = own_tables parts symbols in
        let ad = own_sound ok in
        let h : 1 ≤ k = leb-true 1 k (and_left (leb 1 k) (leb k 1048576) (and_left (leb 1 k && leb k 1048576) T.sized ad.sized)) in
        ap span_answer
        (last_whole word_shape (reader b k T) (listing word_shape (reader b k T)) (stored word_shape (reader b k T))
        (admitted_reads word_shape (reader b k T) (forward word_shape T.words b k (rules T)) ad) ad.nested h)

-- what the writer makes is admitted
pub packed_admitted : (parts symbols l : List ℕ) → list_verdict parts symbols l ≡ passed → Admitted word_shape (own_reader (packed parts symbols l) (list_count l) parts symbols)
packed_admitted parts symbols l ok = own_sound (packed parts symbols l) (list_count l) parts symbols (packed_passes parts symbols l ok)
