-- Document 01's table mode with reports: demand 3, and the last span's report.
use Prim.Native.Nat.{ℕ, ◌+◌, ◌-◌, ◌≤◌, ◌<◌}
use mathlib.Core.Bool.{◌&&◌}
use mathlib.Core.Path.{◌≡◌, refl, sym, ap, ◌∙◌}
use mathlib.Core.List.{List}
use native.Mathlib.Omega.{arith}
use borrow.Author.Tests.{leb-true, eqb-true}
use lib.Dec.{leb}
use Rattle.std.specs.Prelude.{if◌then◌else◌}
use Rattle.format.specs.Verdict.{passed}
use Rattle.format.specs.Reader.{Shape, Reader, got, Answer, done, none, one, two, refused, mapped}
use Rattle.format.specs.Walk.{Walk, skip, fresh_walk}
use Rattle.format.specs.Plain.{Listing, plain_walk_go}
use Rattle.format.specs.Check.{Admitted, place_of, listing, stored}
use Rattle.format.specs.Rule.{WalkRule}
use Rattle.format.specs.Loose.{Loose, is_loose, loose_both, loose_at, reported_shape, reported}
use Rattle.format.specs.Tables.{rules, own_tables}
use Rattle.format.specs.Buffer.{word_shape, own_reader, buffer_check}
use Rattle.format.specs.LastSpan.{last_tree, end_span, span_answer, last_span, end_loose, span_reported, last_reported}
use Rattle.format.proofs.ListRead.{Reads}
use Rattle.format.proofs.Each.{and_left}
use Rattle.format.proofs.WalkRun.{lands}
use Rattle.format.proofs.CheckLaw.{check_sound, admitted_reads}
use Rattle.format.proofs.Reading.{forward}
use Rattle.format.proofs.Reported.{reported_check, reported_place, reported_tree, reported_forward, reported_rule, last_reported_lem}
use Rattle.format.proofs.LastSpan.{last_whole, last_within_lem}
use Rattle.format.proofs.RootForm.{heavy_at}
use Rattle.format.proofs.LooseTree.{root_loose}
use Rattle.format.proofs.Own.{own_sound, own_clean}

-- over every buffer and of every walk: without its report the last span is the old one
pub own_last_same : (b : List ℕ) (k : ℕ) (parts symbols : List ℕ) (w : Walk) → mapped (λ t. t.0) (last_reported b k parts symbols w) ≡ last_span b k parts symbols w
own_last_same b k parts symbols w =
    answer (last_tree (reported_shape word_shape) (reported (loose_at b) (own_reader b k parts symbols)) w) ∙ ap span_answer (last_reported_lem word_shape (loose_at b) (own_reader b k parts symbols) w)
  where
    answer : (a : Answer (List ℕ × Loose)) → mapped (λ t. t.0) (span_reported a) ≡ span_answer (mapped (λ t. t.0) a)
    answer (one t) = refl
    answer (refused r n) = refl
    answer none = refl
    answer done = refl
    answer (two t u) = refl

module _ (b : List ℕ) (k : ℕ) (parts symbols : List ℕ) (ok : buffer_check b k parts symbols ≡ passed) where
  abbrev R : Reader (List ℕ)
  R = own_reader b k parts symbols

  abbrev S' : Shape (List ℕ × Loose)
  S' = reported_shape word_shape

  abbrev R' : Reader (List ℕ × Loose)
  R' = reported (loose_at b) R

  abbrev L : Listing (List ℕ)
  L = listing word_shape R

  abbrev L' : Listing (List ℕ × Loose)
  L' = listing S' R'

  own_forward : (n p : ℕ) (t : List ℕ) (next kids : ℕ) → R.read n p ≡ got t next kids → p < next
  unfolding own_reader
  own_forward = forward word_shape (own_tables parts symbols).words b k (rules (own_tables parts symbols))

  own_some : 1 ≤ k
  unfolding own_reader
  own_some = leb-true 1 k (and_left (leb 1 k) (leb k 1048576) (and_left (leb 1 k && leb k 1048576) (own_tables parts symbols).sized (own_sound b k parts symbols ok).sized))

  -- DEMAND 3 with reports
  pub own_reported_rule : WalkRule (reported_shape word_shape) (reported (loose_at b) (own_reader b k parts symbols))
  own_reported_rule = reported_rule word_shape (loose_at b) R refl own_forward ok

  -- the list with reports: tree n beside the report of the bytes from which it is read, at the place where it stands
  pub reported_listing : (n : ℕ) → n < k → L'.tree n ≡ (L.tree n, loose_at b (L.place n))
  unfolding own_reader
  reported_listing n h = reported_tree word_shape (loose_at b) R refl (own_sound b k parts symbols ok) n h

  pub reported_places : (n : ℕ) → L'.place n ≡ L.place n
  reported_places = reported_place word_shape (loose_at b) R refl

  -- tree 0 has two reports of its own, each of twelve bytes
  pub own_root_loose : loose_at b 0 ≡ loose_both (is_loose 0 (heavy_at b 0) 12) (is_loose 13 (heavy_at b 13) 25)
  unfolding place_of
  own_root_loose =
      let c = own_clean b k parts symbols ok 0 own_some in
      let e = eqb-true (place_of word_shape R 1) 33 c.form in
      root_loose b 0 c.raw (stored word_shape R 0) (c.stands ∙ ap (λ q. got c.raw q (stored word_shape R 0)) e)

  -- ---- the last span

  ad : Admitted S' R'
  ad = check_sound S' R' (reported_check word_shape (loose_at b) R refl ∙ ok)

  own_reads : Reads S' R' L' (stored S' R')
  own_reads = admitted_reads S' R' (reported_forward word_shape (loose_at b) R refl own_forward) ad

  pub own_last_reported : last_reported b k parts symbols (fresh_walk (own_reader b k parts symbols)) ≡ one (end_span (L.tree (k - 1)), end_loose (L.tree (k - 1), loose_at b (L.place (k - 1))))
  unfolding own_reader
  own_last_reported =
      let h = own_some in
      ap span_reported (last_whole S' R' L' (stored S' R') own_reads ad.nested h) ∙ ap (λ t. span_reported (one t)) (reported_listing (k - 1) (omega arith))

  -- of tree n and what it holds, as `own_last_within`
  pub own_last_reported_within : (n m s : ℕ) → n < k → m ≡ plain_walk_go word_shape L skip n → n ≤ s → s < m
      → last_reported b k parts symbols (record { place = L.place s; number = s; left = m - s }) ≡ one (end_span (L.tree (m - 1)), end_loose (L.tree (m - 1), loose_at b (L.place (m - 1))))
  unfolding own_reader
  own_last_reported_within n m s h d g l =
      let t = reported_listing n h in
      let d' : m ≡ plain_walk_go S' L' skip n = d ∙ ap (λ u. if word_shape.is_sub u.0 then n + 1 + word_shape.count u.0 else n + 1) (sym t) in
      let e = lands S' R' L' (stored S' R') own_reads ad.nested skip n h in
      rw (← reported_places s)
      (ap span_reported (last_within_lem S' R' L' (stored S' R') own_reads ad.nested n m h d' s g l) ∙ ap (λ u. span_reported (one u)) (reported_listing (m - 1) (omega arith)))
