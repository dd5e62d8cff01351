-- The answers of `last_span` in document 01's numbers and values, and what its parts promise.
use Rattle.std.specs.Prelude.{ℕ, ◌<◌, Bool, ◌≡◌, List, Option, Some, None, Result, Ok, Err}
use Rattle.format.specs.Reader as format
use Rattle.format.specs.Walk as steps
use Rattle.format.specs.Tables.{Mode, mode_tables}
use Rattle.format.specs.Buffer.{word_shape, reader}
use Rattle.format.specs.LastSpan.{last_tree, last_span, span_reported, last_reported}
use Rattle.format.specs.Loose.{Loose, loose_at, reported_shape, reported}
use Rattle.format.specs.Reader.{Reader, mapped}
use Rattle.tree.specs.Loose.{reported_of}
use Rattle.tree.specs.Types.{span_list}
use Rattle.tree.specs.declared.loose.ReportedTree.{ReportedTree}
use Rattle.tree.specs.declared.refusal.Refusal.{Refusal}
use Rattle.walk.specs.Source.{shown_report}
use Rattle.walk.specs.Walk.{walk_of}
use Rattle.walk.specs.declared.walk.Walk.{Walk}
use Rattle.walk.specs.declared.last_span.ReportedSpan.{ReportedSpan}
use Rattle.walk.specs.declared.last_span.Last.{Last}
use Rattle.walk.specs.declared.last_span.Last.TheVariants.{Found, Of}

-- a span by its five words, with its report
unfoldable pub last_of : Result (Option ReportedSpan) Refusal → format.Answer (List ℕ × Bool)
last_of (Ok (Some s)) = format.one (span_list s.span, s.loose)
last_of (Ok None) = format.none
last_of (Err r) = format.refused r.number r.tree

-- and without
unfoldable pub last_words : Result (Option ReportedSpan) Refusal → format.Answer (List ℕ)
last_words r = mapped (λ (s : List ℕ × Bool). s.0) (last_of r)

pub record LastFound (b : List ℕ) (k : ℕ) (parts symbols : List ℕ) (w : Walk) (r : Result (Option ReportedSpan) Refusal) : Type 0 where
  pub exact : last_of r ≡ last_reported b k parts symbols (walk_of w)
  pub words : last_words r ≡ last_span b k parts symbols (walk_of w)

-- ---- over the tables of a mode

abbrev pub word_reader : List ℕ → ℕ → Mode → Reader (List ℕ × Loose)
word_reader b k M = reported (loose_at b) (reader b k (mode_tables M))

-- as `last_reported`
unfoldable pub last_in : List ℕ → ℕ → Mode → steps.Walk → format.Answer (List ℕ × Bool)
last_in b k M w = span_reported (last_tree (reported_shape word_shape) (word_reader b k M) w)

-- the walk has gone past tree t, and none is left
pub record AtLast (b : List ℕ) (k : ℕ) (M : Mode) (w : Walk) (t : ReportedTree) : Type 0 where
  pub answer : (steps.walk_step (reported_shape word_shape) (word_reader b k M) steps.skip (walk_of w)).0 ≡ format.one (shown_report (reported_of t))
  pub last : (steps.walk_step (reported_shape word_shape) (word_reader b k M) steps.skip (walk_of w)).1.left ≡ 0

-- what is last of w is last of v, which has fewer left
pub record Same (b : List ℕ) (k : ℕ) (M : Mode) (w v : Walk) : Type 0 where
  pub same : last_in b k M (walk_of w) ≡ last_in b k M (walk_of v)
  pub fewer : v.left < w.left

unfoldable pub Goes : List ℕ → ℕ → Mode → Walk → Result Last Refusal → Type 0
Goes b k M w (Ok (Found a)) = last_of (Ok a) ≡ last_in b k M (walk_of w)
Goes b k M w (Ok (Of v)) = Same b k M w v
Goes b k M w (Err r) = last_of (Err r) ≡ last_in b k M (walk_of w)
