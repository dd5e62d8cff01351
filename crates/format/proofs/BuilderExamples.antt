-- Worked steps of a builder: document 01's examples of rows 4, 10 and 11, and what the limits answer.
use Prim.Native.Nat.{ℕ, zero, suc, ◌<◌}
use mathlib.Core.Bool.{Bool, true, false}
use mathlib.Core.Path.{◌≡◌, refl}
use mathlib.Core.List.{List, [], ◌∷◌, ◌++◌}
use native.Mathlib.Omega.{arith}
use borrow.Author.Tests.{le-ltb, lt-ltb}
use lib.Dec.{ltb, leb, eqb}
use lib.ListN.{length, replicate}
use Rattle.format.specs.Verdict.{passed, refused, wrote, refusal, each_from}
use Rattle.format.specs.Word.{put}
use Rattle.format.specs.Nest.{nest_from, still_open}
use Rattle.format.specs.Write.{suffixes, tree_bytes, span_bytes, heavy_bytes, root_bytes}
use Rattle.format.specs.WordList.{raw_from, list_count, list_rules}
use Rattle.format.specs.Writer.{find, raws, list_verdict}
use Rattle.format.specs.Root.{range_fits}
use Rattle.format.specs.Builder.{Builder, Point, subtree_words, leaf_fits, open_fit, disagrees, Stepped, no_builder, new, room, push_verdict, open_verdict, close_verdict, open_before, is_among, point_verdict, restore_point, point_fits, Step, push, open_subtree, close_subtree, restore, builder_step, builder_run, builder_from, build_list, inner_list, skip_list, build, holding_all}
use Rattle.format.specs.Part.{WordSpan, no_span}

-- ---- what the limits answer

module _ (l : List ℕ) (b : Builder) (a : disagrees l b ≡ false) where
  -- "close with none open"
  pub close_none : (s : WordSpan) → length b.opened ≡ 0 → close_verdict l b s ≡ refused 10 b.count
  close_none s h = simp (a, h)

  -- "Subtrees nest at most 256 deep, the root counting 1."
  pub open_deep : (kind : ℕ) (s : WordSpan) → leb kind 3 ≡ true → range_fits s ≡ true → length b.opened ≡ 255 → open_verdict l b kind s ≡ refused 4 b.count
  open_deep kind s k f h = simp (a, k, f, h)

  -- with 254 open one more may be opened
  pub open_room : (kind : ℕ) (s : WordSpan) → leb kind 3 ≡ true → range_fits s ≡ true → length b.opened ≡ 254 → open_verdict l b kind s ≡ room l b
  open_room kind s k f h = simp (a, k, f, h)

  -- "1 for a tree too many"
  pub push_many : (w : List ℕ) → leaf_fits w ≡ true → b.count ≡ 1048576 → push_verdict l b w ≡ refused 1 1048576
  push_many w f h = simp (a, f, h)

  -- no room for one more
  pub push_short : (w : List ℕ) → leaf_fits w ≡ true → b.count < 1048576 → b.count ≡ list_count l → push_verdict l b w ≡ refused 6 b.count
  push_short w f g h =
      let x = lt-ltb b.count 1048576 g in
      let y = le-ltb b.count (list_count l) (omega arith) in
      simp (a, f, x, y)

-- ---- worked steps, over a run of four trees

z : WordSpan
z = no_span

A : WordSpan
A = record { part = record { file = 7; ast = 0; context = 0 }; start = 10; len = 1 }

-- `+` Alone
plus : List ℕ
plus = 0 ∷ 43 ∷ 0 ∷ 7 ∷ 0 ∷ 0 ∷ 10 ∷ 1 ∷ 0 ∷ 0 ∷ 0 ∷ 0 ∷ 0 ∷ []

four : List ℕ
four = replicate 52 0

from : List Step → Stepped
from ss = builder_from 3 z z four ss

-- the point at that moment
point_of : List Step → Point
point_of ss = restore_point (from ss).words (from ss).builder

-- kind 4; a run of 12 words
new_refused : (new 4 z z four ≡ record { verdict = refused 2 0; builder = no_builder; words = four })
    × (new 3 z z (replicate 12 0) ≡ record { verdict = refused 6 0; builder = no_builder; words = replicate 12 0 })
unfolding z four new
new_refused = (refl, refl)

closes_none : ((from (close_subtree z ∷ [])).verdict ≡ refused 10 1) × ((from (push plus ∷ close_subtree z ∷ [])).verdict ≡ refused 10 2)
unfolding z plus four from builder_from new builder_run builder_step disagrees open_fit put raw_from
closes_none = (refl, refl)

-- "point of 0 trees"
point_zero : (from (restore (record { trees = 0; opened = 0 }) ∷ [])).verdict ≡ refused 11 0
unfolding z four from builder_from new builder_run builder_step disagrees open_fit put
point_zero = refl

-- the subtree open at the point is closed over a later tree: it reaches past the point
push_close : (from (open_subtree 0 z ∷ push plus ∷ close_subtree z ∷ restore (point_of (open_subtree 0 z ∷ [])) ∷ [])).verdict ≡ refused 11 0
unfolding z plus four from point_of builder_from new builder_run builder_step disagrees open_fit put raw_from each_from open_before is_among point_fits
push_close = refl

-- it is closed at the point: one open is too few
close_push : (from (open_subtree 0 z ∷ close_subtree z ∷ push plus ∷ restore (point_of (open_subtree 0 z ∷ [])) ∷ [])).verdict ≡ refused 11 0
unfolding z plus four from point_of builder_from new builder_run builder_step disagrees open_fit put raw_from each_from open_before is_among point_fits
close_push = refl

-- a point that no builder gave: within the closed subtree, and behind it
point_inside : ((from (open_subtree 0 z ∷ push plus ∷ close_subtree z ∷ restore (record { trees = 2; opened = 0 }) ∷ [])).verdict ≡ refused 11 0)
    × ((from (open_subtree 0 z ∷ push plus ∷ close_subtree z ∷ push plus ∷ restore (record { trees = 3; opened = 0 }) ∷ [])).builder ≡ record { count = 3; opened = [] })
unfolding z plus four from builder_from new builder_run builder_step disagrees open_fit put raw_from each_from open_before is_among point_fits
point_inside = (refl, refl)

-- a subtree that is still open is left out again
push_open : ((from (push plus ∷ open_subtree 0 A ∷ restore (point_of (push plus ∷ [])) ∷ [])).verdict ≡ passed)
    × ((from (push plus ∷ open_subtree 0 A ∷ restore (point_of (push plus ∷ [])) ∷ [])).builder ≡ record { count = 2; opened = [] })
unfolding z A plus four from point_of builder_from new builder_run builder_step disagrees open_fit put raw_from each_from open_before is_among point_fits
push_open = (refl, refl)

-- a point ahead changes nothing, whatever its open number
point_ahead : from (push plus ∷ restore (record { trees = 3; opened = 9 }) ∷ []) ≡ from (push plus ∷ [])
unfolding z plus four from builder_from new builder_run builder_step disagrees open_fit put raw_from
point_ahead = refl

-- four trees, and no room for a fifth
full : (from (push plus ∷ open_subtree 0 A ∷ push plus ∷ push plus ∷ [])).verdict ≡ refused 6 4
unfolding z A plus four from builder_from new builder_run builder_step disagrees open_fit put raw_from
full = refl

-- ---- depth: n subtrees in a run, and all but the root open

subs : ℕ → List ℕ
subs zero = []
subs (suc n) = subtree_words 0 0 z z ++ subs n

-- ---- a builder that disagrees

disagreeing : (disagrees (subs 3) (record { count = 3; opened = 2 ∷ 1 ∷ [] }) ≡ false)
    × (disagrees (subs 3) (record { count = 0; opened = [] }) ≡ true)
    × (disagrees (subs 3) (record { count = 4; opened = [] }) ≡ true)
    × (disagrees four (record { count = 1; opened = [] }) ≡ true)
    × (disagrees (subs 3) (record { count = 3; opened = 0 ∷ [] }) ≡ true)
    × (disagrees (subs 3) (record { count = 2; opened = 2 ∷ [] }) ≡ true)
    × (disagrees (subs 3) (record { count = 3; opened = 1 ∷ 2 ∷ [] }) ≡ true)
    × (disagrees (subs 3) (record { count = 3; opened = 2 ∷ 2 ∷ [] }) ≡ true)
    × (disagrees (subs 1 ++ plus) (record { count = 2; opened = 1 ∷ [] }) ≡ true)
unfolding z plus four subs disagrees open_fit
disagreeing = (refl, refl, refl, refl, refl, refl, refl, refl, refl)

-- "over 255 are open"
over_255 : (l : List ℕ) (b : Builder) → length b.opened ≡ 256 → disagrees l b ≡ true
unfolding disagrees
over_255 l b h = go (eqb b.count 0) (ltb 1048576 b.count) (ltb (list_count l) b.count) refl refl refl
  where
    go : (x y z : Bool) → eqb b.count 0 ≡ x → ltb 1048576 b.count ≡ y → ltb (list_count l) b.count ≡ z → disagrees l b ≡ true
    go true y z e f g = simp e
    go false true z e f g = simp (e, f)
    go false false true e f g = simp (e, f, g)
    go false false false e f g = simp (e, f, g, h)

too_many : (l ms : List ℕ) → disagrees l (record { count = 1048577; opened = ms }) ≡ true
unfolding disagrees
too_many l ms = refl

-- "at the present count"; "10, 11: 0 unless said"
where_ten : ((builder_step (push plus) (record { count = 9; opened = [] }) four).verdict ≡ refused 10 9)
    × ((builder_step (open_subtree 0 z) (record { count = 9; opened = [] }) four).verdict ≡ refused 10 9)
    × ((builder_step (close_subtree z) (record { count = 9; opened = [] }) four).verdict ≡ refused 10 9)
    × ((builder_step (restore (record { trees = 1; opened = 0 })) (record { count = 9; opened = [] }) four).verdict ≡ refused 10 0)
    × ((build [] [] [] [] four (record { count = 9; opened = [] })).verdict ≡ refused 10 0)
unfolding z plus four builder_step disagrees open_fit
where_ten = (refl, refl, refl, refl, refl)

-- a subtree is no leaf; spacing 3; a close span that is too long
where_two : ((from (push (subtree_words 0 0 z z) ∷ [])).verdict ≡ refused 2 1)
    × ((from (push (0 ∷ 43 ∷ 3 ∷ []) ∷ [])).verdict ≡ refused 2 1)
    × ((from (open_subtree 0 z ∷ close_subtree (record { part = no_span.part; start = 4294967295; len = 1 }) ∷ [])).verdict ≡ refused 2 2)
unfolding z four from builder_from new builder_run builder_step disagrees open_fit put raw_from
where_two = (refl, refl, refl)

-- ---- what is built

-- "10 while one is open"
build_open : build [] [] (1 ∷ 2 ∷ []) (3 ∷ []) (from (open_subtree 0 z ∷ [])).words (from (open_subtree 0 z ∷ [])).builder
    ≡ record { verdict = refused 10 0; report = refusal 10 0; work = 1 ∷ 2 ∷ []; out = 3 ∷ [] }
unfolding z four from builder_from new builder_run builder_step disagrees open_fit put
build_open = refl

-- a stored root count is not looked at
stored_count : build_list (subtree_words 5 3 z z) (record { count = 1; opened = [] }) ≡ subtree_words 0 3 z z
unfolding z build_list holding_all
stored_count = refl

-- one subtree in the root: the root goes; two trees in it: it stays
skips_top : (skip_list (from (open_subtree 0 z ∷ push plus ∷ close_subtree A ∷ [])).words (from (open_subtree 0 z ∷ push plus ∷ close_subtree A ∷ [])).builder
    ≡ subtree_words 1 0 z A ++ plus)
    × (skip_list (from (open_subtree 0 z ∷ close_subtree A ∷ push plus ∷ [])).words (from (open_subtree 0 z ∷ close_subtree A ∷ push plus ∷ [])).builder
    ≡ subtree_words 2 3 z z ++ subtree_words 0 0 z A ++ plus)
unfolding z A plus four from builder_from new builder_run builder_step disagrees open_fit put raw_from build_list holding_all inner_list
skips_top = (refl, refl)

-- the root of zeros around `+`: the parts are the punct's and the root's two, and the work words count bytes from the end
root_plus_lem : build (7 ∷ 0 ∷ 0 ∷ 0 ∷ 0 ∷ 0 ∷ 0 ∷ 0 ∷ 0 ∷ []) [] (9 ∷ 9 ∷ 9 ∷ 9 ∷ []) (replicate 39 9) (from (push plus ∷ [])).words (from (push plus ∷ [])).builder
    ≡ record {
      verdict = passed;
      report = wrote 38;
      work = 38 ∷ 5 ∷ 0 ∷ 9 ∷ [];
      out = 0x04 ∷ 0x40 ∷ 0 ∷ 0 ∷ 1 ∷ 0 ∷ 0 ∷ 0 ∷ 0 ∷ 0 ∷ 0 ∷ 0 ∷ 0x1D ∷ 0x08 ∷ 0x40 ∷ 0 ∷ 0 ∷ 1 ∷ 0 ∷ 0 ∷ 0 ∷ 0 ∷ 0 ∷ 0 ∷ 0 ∷ 1 ∷ 0 ∷ 0 ∷ 0 ∷ 5 ∷ 0 ∷ 0 ∷ 0
          ∷ 0x41 ∷ 0x00 ∷ 0x05 ∷ 0x00 ∷ 0x56 ∷ 9 ∷ [];
    }
unfolding z plus four from builder_from new builder_run builder_step disagrees open_fit put raw_from build_list holding_all list_verdict list_rules each_from nest_from still_open find raws suffixes tree_bytes span_bytes heavy_bytes root_bytes
root_plus_lem = refl

-- a builder that disagrees has no point: 10 at 0
no_point : (point_verdict four no_builder ≡ refused 10 0) × (restore_point four no_builder ≡ record { trees = 0; opened = 0 })
unfolding four disagrees open_fit
no_point = (refl, refl)

-- "10, 2, 4, 1 for a tree too many, 6" in this order, where two rows hold: kind 4 in a run of 12 words; spacing 3 in a full run; kind 4 with 255 open;
-- none open and a span out of range
abbrev far : WordSpan
far = record { part = no_span.part; start = 4294967295; len = 1 }

first_rows : ((new 4 z z (replicate 12 0)).verdict ≡ refused 2 0)
    × (push_verdict (subtree_words 0 3 z z) (record { count = 1; opened = [] }) (0 ∷ 43 ∷ 3 ∷ []) ≡ refused 2 1)
    × (close_verdict (subtree_words 0 3 z z) (record { count = 1; opened = [] }) far ≡ refused 10 1)
unfolding z new disagrees open_fit raw_from
first_rows = (refl, refl, refl)

kind_before_depth : (l : List ℕ) (b : Builder) → disagrees l b ≡ false → open_verdict l b 4 z ≡ refused 2 b.count
kind_before_depth l b a = simp a
