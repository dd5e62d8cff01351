-- DEMAND 3 as one statement on what the functions of crates `walk` and `cursor` return over one buffer, by their contracts.
use Rattle.std.specs.Prelude.{ℕ, ◌+◌, ◌-◌, ◌≤◌, ◌<◌, true, ◌≡◌, List, map, replicate, Option, Result}
use Rattle.format.specs.Reader.{Answer, one}
use Rattle.format.specs.Walk.{WalkCall, advance, skip}
use Rattle.format.specs.Cursor as calls
use Rattle.format.specs.Cursor.{CursorCall}
use Rattle.format.specs.Plain.{Listing, sub, plain_walk_go, plain_walk_run, plain_cursor_run, fresh_state}
use Rattle.format.specs.Check.{listing}
use Rattle.format.specs.Buffer.{word_shape, own_reader}
use Rattle.format.specs.LastSpan.{end_span, end_loose}
use Rattle.format.specs.Loose.{Loose, loose_at, reported_shape, reported}
use Rattle.tree.specs.declared.types.TokenTree.{TokenTree}
use Rattle.tree.specs.declared.refusal.Refusal.{Refusal}
use Rattle.walk.specs.Walk.{walk_of, step_words, step_report, Stepped}
use Rattle.walk.specs.Last.{last_of, last_words, LastFound}
use Rattle.walk.specs.Run as walk
use Rattle.walk.specs.Run.{walk_after}
use Rattle.walk.specs.declared.walk.Walk.{Walk}
use Rattle.walk.specs.declared.walk.Step.{Step}
use Rattle.walk.specs.declared.last_span.ReportedSpan.{ReportedSpan}
use Rattle.cursor.specs.Moves.{fresh_cursor, Arrays}
use Rattle.cursor.specs.Run as cursor
use Rattle.cursor.specs.Run.{Held, held, held_as, in_words, in_report}

-- "reads tree after tree from byte 0 .. the list is trees 0 to k - 1"
abbrev pub list_read : List ℕ → ℕ → List ℕ → List ℕ → Listing (List ℕ)
list_read b k parts symbols = listing word_shape (own_reader b k parts symbols)

-- the walk of `fresh`
abbrev pub IsFresh : ℕ → Walk → Type 0
IsFresh k w = walk_of w ≡ record { place = 0; number = 0; left = k }

-- Demand 3: "every list of walk steps and every list of cursor calls from a fresh state answers exactly as the plain machine over the list does, refusals and
-- states included". Ruled out: a walk that repeats the root or reports none; a cursor that is right for one call and loses an open subtree in a list of them
pub record AsPlain (b : List ℕ) (k : ℕ) (parts symbols : List ℕ) : Type 0 where
  -- `advance` and `advance_skip_subtree`
  pub walks : (first : Walk) → IsFresh k first → (cs : List WalkCall) (ss : List Step) → walk.Ran b k parts symbols cs first ss
      → map step_words ss ≡ plain_walk_run word_shape (list_read b k parts symbols) cs 0
  -- … and after any of them, passing a subtree lands where reading it and its descendants singly does
  pub passing : (first : Walk) → IsFresh k first → (cs : List WalkCall) (ss : List Step) → walk.Ran b k parts symbols cs first ss
      → (s : Step) (singly : List Step) → (walk_after first ss).number < k → sub word_shape (list_read b k parts symbols) (walk_after first ss).number ≡ true
      → Stepped b k parts symbols skip (walk_after first ss) s
      → walk.Ran b k parts symbols (replicate (1 + word_shape.count ((list_read b k parts symbols).tree (walk_after first ss).number)) advance) (walk_after first ss) singly
      → walk_of s.walk ≡ walk_of (walk_after (walk_after first ss) singly)
  -- `last_span` of all
  pub last_spans : (first : Walk) → IsFresh k first → (r : Result (Option ReportedSpan) Refusal) → LastFound b k parts symbols first r
      → last_words r ≡ one (end_span ((list_read b k parts symbols).tree (k - 1)))
  -- … and of tree n and what it holds, trees n to m - 1, m being where a step past it leads; all of them or from tree s on, as n + 1 after `advance`.
  -- "The last span of a nonempty subtree is that of its last descendant; of an empty one, its close"
  pub last_within : (n m s : ℕ) → n < k → m ≡ plain_walk_go word_shape (list_read b k parts symbols) skip n → n ≤ s → s < m
      → (w : Walk) → walk_of w ≡ record { place = (list_read b k parts symbols).place s; number = s; left = m - s }
      → (r : Result (Option ReportedSpan) Refusal) → LastFound b k parts symbols w r
      → last_words r ≡ one (end_span ((list_read b k parts symbols).tree (m - 1)))
  -- `bump`, `end`, `bump_or_end`, `token_tree`, `peek_two_leaves`, the cursor by value
  pub cursors : (cs : List CursorCall) (rs : List (Answer (TokenTree × Loose) × Held)) → cursor.Ran b k parts symbols cs (held fresh_cursor) rs
      → map in_words rs ≡ plain_cursor_run word_shape (list_read b k parts symbols) cs fresh_state
  -- … and over lent arrays, whatever these hold
  pub lent : (h : Held) → Arrays h.numbers h.counts h.places → held_as h ≡ calls.fresh_cursor
      → (cs : List CursorCall) (rs : List (Answer (TokenTree × Loose) × Held)) → cursor.Ran b k parts symbols cs h rs
      → map in_words rs ≡ plain_cursor_run word_shape (list_read b k parts symbols) cs fresh_state

-- "In the walk rule this report, like the byte place, is that of the bytes from which the definition reads the tree; the list does not carry it": the list's trees
-- in pairs with the reports of their places
abbrev pub report_read : List ℕ → ℕ → List ℕ → List ℕ → Listing (List ℕ × Loose)
report_read b k parts symbols = listing (reported_shape word_shape) (reported (loose_at b) (own_reader b k parts symbols))

-- Demand 3 once more, reports included: the plain machine knows for each tree number the list words, the place and the report of the bytes there
pub record AsPlainReported (b : List ℕ) (k : ℕ) (parts symbols : List ℕ) : Type 0 where
  -- what the plain machine is fed: places and list words are those of the list
  pub trees : (n : ℕ) → n < k → (report_read b k parts symbols).tree n ≡ ((list_read b k parts symbols).tree n, loose_at b ((list_read b k parts symbols).place n))
  pub places : (n : ℕ) → (report_read b k parts symbols).place n ≡ (list_read b k parts symbols).place n
  pub walks : (first : Walk) → IsFresh k first → (cs : List WalkCall) (ss : List Step) → walk.Ran b k parts symbols cs first ss
      → map step_report ss ≡ plain_walk_run (reported_shape word_shape) (report_read b k parts symbols) cs 0
  pub last_spans : (first : Walk) → IsFresh k first → (r : Result (Option ReportedSpan) Refusal) → LastFound b k parts symbols first r
      → last_of r ≡ one (end_span ((list_read b k parts symbols).tree (k - 1)), end_loose ((list_read b k parts symbols).tree (k - 1), loose_at b ((list_read b k parts symbols).place (k - 1))))
  pub last_within : (n m s : ℕ) → n < k → m ≡ plain_walk_go word_shape (list_read b k parts symbols) skip n → n ≤ s → s < m
      → (w : Walk) → walk_of w ≡ record { place = (list_read b k parts symbols).place s; number = s; left = m - s }
      → (r : Result (Option ReportedSpan) Refusal) → LastFound b k parts symbols w r
      → last_of r ≡ one (end_span ((list_read b k parts symbols).tree (m - 1)), end_loose ((list_read b k parts symbols).tree (m - 1), loose_at b ((list_read b k parts symbols).place (m - 1))))
  pub cursors : (cs : List CursorCall) (rs : List (Answer (TokenTree × Loose) × Held)) → cursor.Ran b k parts symbols cs (held fresh_cursor) rs
      → map in_report rs ≡ plain_cursor_run (reported_shape word_shape) (report_read b k parts symbols) cs fresh_state
  pub lent : (h : Held) → Arrays h.numbers h.counts h.places → held_as h ≡ calls.fresh_cursor
      → (cs : List CursorCall) (rs : List (Answer (TokenTree × Loose) × Held)) → cursor.Ran b k parts symbols cs h rs
      → map in_report rs ≡ plain_cursor_run (reported_shape word_shape) (report_read b k parts symbols) cs fresh_state
