-- `last_span` of the trees that a walk has left.
use Rattle.std.specs.Prelude.{ℕ, zero, suc, ◌+◌, Bool, ◌&&◌, List, take, drop, ltb, if◌then◌else◌}
use Rattle.format.specs.Reader.{Shape, Reader, Answer, done, none, one, two, refused}
use Rattle.format.specs.Walk.{Walk, advance, skip, walk_step}
use Rattle.format.specs.Loose.{Loose, loose_at, reported_shape, reported}
use Rattle.format.specs.Width.{span_size, open_at, close_at}
use Rattle.format.specs.Buffer.{word_shape, own_reader}

module _ {Tree : Type 0} (S : Shape Tree) (R : Reader Tree) where
  -- the walk w has gone past tree t to v: on to the trees that v has left, else into t if it is a nonempty subtree, else t is the last tree
  abbrev pub last_after : (Walk → Answer Tree) → Walk → Answer Tree → Walk → Answer Tree
  last_after go w (one t) v =
      if ltb 0 v.left then go v else
      (if S.is_sub t && ltb 0 (S.count t) then go (walk_step S R advance w).1 else one t)
  -- "going child by child, the first refused step is its refusal"
  last_after go w (refused r n) v = refused r n
  last_after go w none v = none
  -- a walk step never answers these two
  last_after go w done v = none
  last_after go w (two t u) v = none

  -- in at most f steps
  unfoldable pub last_for : ℕ → Walk → Answer Tree
  last_for zero w = none
  last_for (suc f) w = last_after (last_for f) w (walk_step S R skip w).0 (walk_step S R skip w).1

  -- the last tree, a leaf or an empty subtree. Each step lessens the trees left, so that many and one suffice
  abbrev pub last_tree : Walk → Answer Tree
  last_tree w = last_for (w.left + 1) w

-- "The last span of a nonempty subtree is that of its last descendant; of an empty one, its close": of a tree by its words
abbrev pub end_span : List ℕ → List ℕ
end_span w = if word_shape.is_sub w then drop close_at w else take span_size (drop open_at w)

abbrev pub span_answer : Answer (List ℕ) → Answer (List ℕ)
span_answer (one w) = one (end_span w)
span_answer (refused r n) = refused r n
span_answer none = none
span_answer done = none
span_answer (two v w) = none

-- a span's words, or none, or a refusal
abbrev pub last_span : List ℕ → ℕ → List ℕ → List ℕ → Walk → Answer (List ℕ)
last_span b k parts symbols w = span_answer (last_tree word_shape (own_reader b k parts symbols) w)

-- ---- with its report

-- of the span that is handed back: a leaf's own, an empty subtree's close
abbrev pub end_loose : List ℕ × Loose → Bool
end_loose t = if word_shape.is_sub t.0 then t.1.closing else t.1.opening

abbrev pub span_reported : Answer (List ℕ × Loose) → Answer (List ℕ × Bool)
span_reported (one t) = one (end_span t.0, end_loose t)
span_reported (refused r n) = refused r n
span_reported none = none
span_reported done = none
span_reported (two t u) = none

-- "Everything that reads a span passes this on"
abbrev pub last_reported : List ℕ → ℕ → List ℕ → List ℕ → Walk → Answer (List ℕ × Bool)
last_reported b k parts symbols w = span_reported (last_tree (reported_shape word_shape) (reported (loose_at b) (own_reader b k parts symbols)) w)
