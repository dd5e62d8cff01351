-- The builder: a list of trees made step by step in a lent run of words. Verdict, builder and run after a step are given for every builder and every run.
use Rattle.std.specs.Prelude.{ℕ, ◌+◌, ◌*◌, ◌-◌, Bool, true, false, not, ◌&&◌, ◌||◌, List, [], ◌∷◌, ◌++◌, length, take, drop, get_or, set, ltb, leb, eqb, if◌then◌else◌}
use Rattle.format.specs.Verdict.{Verdict, passed, refused, ◌and_then◌, contents, Report, refusal, rule, each_from}
use Rattle.format.specs.Word.{put}
use Rattle.format.specs.Plain.{end_of, sub}
use Rattle.format.specs.Buffer.{word_shape}
use Rattle.format.specs.Width.{tree_size, close_at}
use Rattle.format.specs.Part.{WordSpan, span_list}
use Rattle.format.specs.Root.{range_fits}
use Rattle.format.specs.WordList.{word_of, tree_list, word_fields, list_count, given}
use Rattle.format.specs.Writer.{writer_verdict, writer_report, work_after, out_after}

pub record Builder : Type 0 where
  pub count : ℕ
  -- the numbers of the open trees, the last opened first
  pub opened : List ℕ

-- "A point of n trees and d open"
pub record Point : Type 0 where
  pub trees : ℕ
  pub opened : ℕ

-- the words of a subtree: descendant count, delimiter kind, open and close span
abbrev pub subtree_words : ℕ → ℕ → WordSpan → WordSpan → List ℕ
subtree_words n d o c = 3 ∷ n ∷ d ∷ span_list o ++ span_list c

-- a leaf as it is given: its words
abbrev pub word_in : List ℕ → ℕ → ℕ
word_in w j = get_or w j 0

abbrev pub leaf_words : List ℕ → List ℕ
leaf_words w = tree_list (word_in w)

-- row 2 of a tree that is pushed; a subtree is no leaf
abbrev pub leaf_fits : List ℕ → Bool
leaf_fits w = not (eqb (word_in w 0) 3) && word_fields (word_in w)

-- ---- what the lent run holds

module _ (l : List ℕ) where
  abbrev pub sub_at : ℕ → Bool
  sub_at n = sub word_shape (given l) n

  -- the number after the last descendant of subtree n
  abbrev pub end_at : ℕ → ℕ
  end_at n = end_of word_shape (given l) n

  -- "rising numbers, from 1 to below the count, of subtrees": the last opened stands first, and each is below the one before it
  unfoldable pub open_fit : ℕ → List ℕ → Bool
  open_fit top [] = true
  open_fit top (m ∷ ms) = leb 1 m && ltb m top && sub_at m && open_fit m ms

  -- "its count is 0, above 1,048,576 or above the lent run's trees, over 255 are open, tree 0 is no subtree, or its open trees are not .."
  unfoldable pub disagrees : Builder → Bool
  disagrees b =
      eqb b.count 0 || ltb 1048576 b.count || ltb (list_count l) b.count
      || ltb 255 (length b.opened) || not (sub_at 0) || not (open_fit b.count b.opened)

-- ---- `new` (2, 6)

-- verdict, builder after, and what the run holds afterwards
pub record Stepped : Type 0 where
  pub verdict : Verdict
  pub builder : Builder
  pub words : List ℕ

-- where `new` is refused: every step of it is 10
abbrev pub no_builder : Builder
no_builder = record { count = 0; opened = [] }

abbrev pub new_builder : Builder
new_builder = record { count = 1; opened = [] }

module _ (kind : ℕ) (o c : WordSpan) (l : List ℕ) where
  abbrev pub new_verdict : Verdict
  new_verdict = rule (leb kind 3 && range_fits o && range_fits c) 2 0 and_then rule (leb 1 (list_count l)) 6 0

  unfoldable pub new : Stepped
  new =
      record {
        verdict = new_verdict;
        builder = contents new_verdict no_builder new_builder;
        words = contents new_verdict l (put l 0 (subtree_words 0 kind o c));
      }

-- ---- `push`, `open`, `close`: "10, 2, 4, 1 for a tree too many, 6, at the present count"

module _ (l : List ℕ) (b : Builder) where
  abbrev pub agreed : Verdict
  agreed = rule (not (disagrees l b)) 10 b.count

  -- rows 1 and 6 for one more tree
  abbrev pub room : Verdict
  room = rule (ltb b.count 1048576) 1 b.count and_then rule (ltb b.count (list_count l)) 6 b.count

  abbrev pub push_verdict : List ℕ → Verdict
  push_verdict w = agreed and_then rule (leaf_fits w) 2 b.count and_then room

  -- a 256th open tree is "too deep": the root counts 1
  abbrev pub open_verdict : ℕ → WordSpan → Verdict
  open_verdict kind s = agreed and_then rule (leb kind 3 && range_fits s) 2 b.count and_then rule (ltb (length b.opened) 255) 4 b.count and_then room

  -- "close with none open" is 10; a close needs no room
  abbrev pub close_verdict : WordSpan → Verdict
  close_verdict s = agreed and_then rule (leb 1 (length b.opened)) 10 b.count and_then rule (range_fits s) 2 b.count

  -- a tree behind the others
  abbrev pub add_tree : List ℕ → List ℕ
  add_tree t = put l (tree_size * b.count) t

  -- the descendant count and the close span of tree m
  abbrev pub close_tree : WordSpan → ℕ → List ℕ
  close_tree s m = put (put l (tree_size * m + 1) ((b.count - (m + 1)) ∷ [])) (tree_size * m + close_at) (span_list s)

  abbrev pub close_last : WordSpan → List ℕ → List ℕ
  close_last s [] = l
  close_last s (m ∷ ms) = close_tree s m

abbrev pub but_last : List ℕ → List ℕ
but_last [] = []
but_last (m ∷ ms) = ms

-- ---- `restore_point`, `restore`

-- the open trees before tree n
unfoldable pub open_before : ℕ → List ℕ → List ℕ
open_before n [] = []
open_before n (m ∷ ms) = if ltb m n then m ∷ open_before n ms else open_before n ms

unfoldable pub is_among : ℕ → List ℕ → Bool
is_among i [] = false
is_among i (m ∷ ms) = eqb i m || is_among i ms

module _ (l : List ℕ) (b : Builder) where
  -- "10, 11: 0 unless said"
  abbrev pub point_verdict : Verdict
  point_verdict = rule (not (disagrees l b)) 10 0

  -- where it is refused: the point of 0 trees, which no builder is restored to
  abbrev pub restore_point : Point
  restore_point = contents point_verdict (record { trees = 0; opened = 0 }) (record { trees = b.count; opened = length b.opened })

  -- "a closed subtree (not the root) before n reaches past n"
  abbrev pub reaches_past : ℕ → ℕ → Bool
  reaches_past n i = sub_at l i && not (is_among i b.opened) && ltb n (end_at l i)

  -- trees 1 to n - 1, then "the open subtrees before n are not d in number"
  unfoldable pub point_fits : Point → Verdict
  point_fits p =
      each_from (λ i. rule (not (reaches_past p.trees i)) 11 0) (p.trees - 1) 1 and_then
      rule (eqb (length (open_before p.trees b.opened)) p.opened) 11 0

  -- "n = 0 is 11; n at or above the present count changes nothing"
  abbrev pub restore_verdict : Point → Verdict
  restore_verdict p =
      rule (not (disagrees l b)) 10 0 and_then rule (leb 1 p.trees) 11 0 and_then
      (if leb b.count p.trees then passed else point_fits p)

abbrev pub restored : Point → Builder → Builder
restored p b = if leb b.count p.trees then b else record { count = p.trees; opened = open_before p.trees b.opened }

-- ---- a step, and a list of steps

pub data Step : Type 0 where
  push : List ℕ → Step
  -- kind, open span
  open_subtree : ℕ → WordSpan → Step
  -- close span
  close_subtree : WordSpan → Step
  restore : Point → Step

abbrev pub step_verdict : Step → Builder → List ℕ → Verdict
step_verdict (push w) b l = push_verdict l b w
step_verdict (open_subtree kind s) b l = open_verdict l b kind s
step_verdict (close_subtree s) b l = close_verdict l b s
step_verdict (restore p) b l = restore_verdict l b p

abbrev pub step_builder : Step → Builder → Builder
step_builder (push w) b = record { count = b.count + 1; opened = b.opened }
step_builder (open_subtree kind s) b = record { count = b.count + 1; opened = b.count ∷ b.opened }
step_builder (close_subtree s) b = record { count = b.count; opened = but_last b.opened }
step_builder (restore p) b = restored p b

abbrev pub step_words : Step → Builder → List ℕ → List ℕ
step_words (push w) b l = add_tree l b (leaf_words w)
step_words (open_subtree kind s) b l = add_tree l b (subtree_words 0 kind s s)
step_words (close_subtree s) b l = close_last l b s b.opened
step_words (restore p) b l = l

-- "A refused step gives back the old state" and changes nothing lent
unfoldable pub builder_step : Step → Builder → List ℕ → Stepped
builder_step s b l =
    let v = step_verdict s b l in
    record { verdict = v; builder = contents v b (step_builder s b); words = contents v l (step_words s b l) }

-- the steps one after the other, refused or not: the first refusal, and builder and run in the end
unfoldable pub builder_run : List Step → Builder → List ℕ → Stepped
builder_run [] b l = record { verdict = passed; builder = b; words = l }
builder_run (s ∷ ss) b l =
    let a = builder_step s b l in
    let r = builder_run ss a.builder a.words in
    record { verdict = a.verdict and_then r.verdict; builder = r.builder; words = r.words }

-- `new`, then the steps
unfoldable pub builder_from : ℕ → WordSpan → WordSpan → List ℕ → List Step → Stepped
builder_from kind o c l ss =
    let a = new kind o c l in
    let r = builder_run ss a.builder a.words in
    record { verdict = a.verdict and_then r.verdict; builder = r.builder; words = r.words }

-- ---- `build`, `build_skip_top_subtree`: "the writer's (root as 0)"

-- "the root taken to hold all others", whatever count it, a subtree, has stored
unfoldable pub holding_all : List ℕ → List ℕ
holding_all l = if eqb (get_or l 0 0) 3 then set l 1 (list_count l - 1) else l

module _ (l : List ℕ) (b : Builder) where
  unfoldable pub build_list : List ℕ
  build_list = holding_all (take (tree_size * b.count) l)

  -- the list without tree 0
  unfoldable pub inner_list : List ℕ
  inner_list = drop tree_size (take (tree_size * b.count) l)

  -- tree 1 is a subtree that holds all behind it
  abbrev pub one_inside : Bool
  one_inside = leb 2 b.count && sub_at l 1 && eqb (word_of l 1 1) (b.count - 2)

  abbrev pub skip_list : List ℕ
  skip_list = if one_inside then inner_list else build_list

  -- "10 while one is open"
  abbrev pub ready : Verdict
  ready = rule (not (disagrees l b) && eqb (length b.opened) 0) 10 0

-- verdict, report, and what work words and output hold afterwards; "the list not written"
pub record Built : Type 0 where
  pub verdict : Verdict
  pub report : Report
  pub work : List ℕ
  pub out : List ℕ

module _ (parts symbols work out : List ℕ) where
  -- what the writer makes of a list
  abbrev pub written : List ℕ → Built
  written m =
      record {
        verdict = writer_verdict parts symbols m work out;
        report = writer_report parts symbols m work out;
        work = work_after parts symbols m work out;
        out = out_after parts symbols m work out;
      }

  abbrev pub if_ready : Verdict → Built → Built
  if_ready passed w = w
  if_ready (refused r n) w = record { verdict = refused r n; report = refusal r n; work = work; out = out }

  abbrev pub build : List ℕ → Builder → Built
  build l b = if_ready (ready l b) (written (build_list l b))

  abbrev pub build_skip_top_subtree : List ℕ → Builder → Built
  build_skip_top_subtree l b = if_ready (ready l b) (written (skip_list l b))
