-- The answers of walk steps in document 01's numbers and values, and what a step promises.
use Rattle.std.specs.Prelude.{ℕ, ◌+◌, ◌-◌, ◌<◌, ◌≤◌, Bool, true, false, ◌≡◌, List, leb, ltb, length, if◌then◌else◌, Option, Some, None, Result, Ok, Err}
use Rattle.format.specs.Reader as format
use Rattle.format.specs.Walk as steps
use Rattle.format.specs.Tables.{Mode}
use Rattle.format.specs.Buffer.{word_shape, own_reader}
use Rattle.format.specs.Loose.{Loose, loose_at, reported_shape, reported}
use Rattle.tree.specs.Loose.{reported_of}
use Rattle.tree.specs.declared.loose.ReportedTree.{ReportedTree}
use Rattle.tree.specs.declared.refusal.Refusal.{Refusal}
use Rattle.tree.specs.declared.types.TokenTree.{TokenTree}
use Rattle.decode.specs.Decode.{TreeAt}
use Rattle.walk.specs.Source.{tree_reader, report_shape, report_reader_in, answer_words, answer_report}
use Rattle.walk.specs.declared.walk.Walk.{Walk}
use Rattle.walk.specs.declared.walk.Step.{Step}

-- "A walk is byte place, tree number, trees left."
abbrev pub walk_of : Walk → steps.Walk
walk_of w = record { place = w.place; number = w.number; left = w.left }

-- "A refusal gives its number and a tree number"
unfoldable pub answer_of : Result (Option ReportedTree) Refusal → format.Answer (TokenTree × Loose)
answer_of (Ok (Some t)) = format.one (reported_of t)
answer_of (Ok None) = format.none
answer_of (Err r) = format.refused r.number r.tree

abbrev pub step_of : Step → format.Answer (TokenTree × Loose) × steps.Walk
step_of s = (answer_of s.answer, walk_of s.walk)

abbrev pub step_words : Step → format.Answer (List ℕ) × steps.Walk
step_words s = (answer_words (answer_of s.answer), walk_of s.walk)

abbrev pub step_report : Step → format.Answer (List ℕ × Loose) × steps.Walk
step_report s = (answer_report (answer_of s.answer), walk_of s.walk)

abbrev pub call_of : Bool → steps.WalkCall
call_of true = steps.skip
call_of false = steps.advance

-- a step: the one tree that the tables give, with its report; and by list words what the definitions' reader reads, without and with reports
pub record Stepped (b : List ℕ) (k : ℕ) (parts symbols : List ℕ) (call : steps.WalkCall) (w : Walk) (r : Step) : Type 0 where
  pub exact : step_of r ≡ steps.walk_step report_shape (reported (loose_at b) (tree_reader b k parts symbols)) call (walk_of w)
  pub words : step_words r ≡ steps.walk_step word_shape (own_reader b k parts symbols) call (walk_of w)
  pub reports : step_report r ≡ steps.walk_step (reported_shape word_shape) (reported (loose_at b) (own_reader b k parts symbols)) call (walk_of w)

-- ---- what both steps begin with, over the tables of a mode

-- a tree is left, its number and place lie in the buffer
pub record Within (b : List ℕ) (w : Walk) (y : TreeAt) : Type 0 where
  pub some : 0 < w.left
  pub trees : w.number + w.left ≤ 1048576
  pub bytes : y.next ≤ length b

pub record ReadAt (b : List ℕ) (k : ℕ) (M : Mode) (w : Walk) (y : TreeAt) : Type 0 where
  pub step : (call : steps.WalkCall) → steps.walk_step report_shape (report_reader_in b k M) call (walk_of w)
      ≡ steps.walk_read report_shape (report_reader_in b k M) call (walk_of w) (format.got (y.tree, loose_at b w.place) y.next y.children.0)
  pub within : Within b w y

-- the step is over, or a tree is read
unfoldable pub Begins : List ℕ → ℕ → Mode → Walk → Result (Option TreeAt) Refusal → Type 0
Begins b k M w (Ok None) = (call : steps.WalkCall) → (format.none, walk_of w) ≡ steps.walk_step report_shape (report_reader_in b k M) call (walk_of w)
Begins b k M w (Err r) = (call : steps.WalkCall) → (format.refused r.number r.tree, walk_of w) ≡ steps.walk_step report_shape (report_reader_in b k M) call (walk_of w)
Begins b k M w (Ok (Some y)) = ReadAt b k M w y

-- passing a tree asks no more of a buffer than its length
unfoldable pub passed : ℕ → steps.Walk → TreeAt → Loose → format.Answer (TokenTree × Loose) × steps.Walk
passed bytes w y x =
    steps.skipped report_shape (record { sized = true; trees = 0; bytes = bytes; read = λ n p. format.bad 0 }) w
    (format.got (y.tree, x) y.next y.children.0)

-- the same of a subtree that holds so many
unfoldable pub passed_over : ℕ → steps.Walk → TreeAt → Loose → ℕ → format.Answer (TokenTree × Loose) × steps.Walk
passed_over bytes w y x count =
    if leb w.left count then (format.refused 3 w.number, w) else
    (if ltb bytes (y.next + y.children.0) then (format.refused 9 w.number, w) else
    (format.one (y.tree, x), record { place = y.next + y.children.0; number = w.number + (1 + count); left = w.left - (1 + count) }))
