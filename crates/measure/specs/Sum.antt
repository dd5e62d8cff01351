-- The list words of the trees that a walk or a cursor hands back, added up.
use Rattle.std.specs.Prelude.{ℕ, zero, suc, ◌+◌, ◌%◌, Bool, true, false, ◌&&◌, List, [], ◌∷◌, leb, get_or, Result, Ok, Err, if◌then◌else◌}
use Rattle.format.specs.Width.{open_at, close_at}
use Rattle.format.specs.Part.{span_from}
use Rattle.format.specs.Reader.{Reader, Answer, done, none, one, two, refused}
use Rattle.format.specs.Walk.{Walk, WalkCall, walk_step}
use Rattle.format.specs.Cursor.{Open, Cursor, token_tree, bump_or_end, cursor_step}
use Rattle.format.specs.Buffer.{word_shape}
use Rattle.tree.specs.Plain.{span_sum}

-- the sum and a tree's words
unfoldable pub plus : ℕ → List ℕ → ℕ
plus s w =
    let v : ℕ → ℕ = λ j. get_or w j 0 in
    (s % 4294967296 + (v 0 + v 1 + v 2) + span_sum (span_from v open_at) + span_sum (span_from v close_at)) % 4294967296

-- a refusal by its number
abbrev pub refused_code : ℕ → ℕ
refused_code r = 9223372036854775808 + r

-- ---- walks

-- after one step: the rest of the walk, or its end
abbrev pub went : (Walk → ℕ → ℕ) → ℕ → Walk → Answer (List ℕ) → ℕ
went rest s v (one t) = rest v (plus s t)
went rest s v none = s
went rest s v done = s
went rest s v (two t u) = s
went rest s v (refused r n) = refused_code r

-- a walk of at most so many steps
unfoldable pub walk_sum : Reader (List ℕ) → WalkCall → ℕ → Walk → ℕ → ℕ
walk_sum R call zero w s = s
walk_sum R call (suc m) w s = went (walk_sum R call m) s (walk_step word_shape R call w).1 (walk_step word_shape R call w).0

-- ---- cursors, `token_tree` and `bump_or_end` in turn

-- the sum so far, or what the loop answers

abbrev pub and_then : Result ℕ ℕ → (ℕ → ℕ) → ℕ
and_then (Ok s) rest = rest s
and_then (Err s) rest = s

abbrev pub none_open : List Open → Bool
none_open [] = true
none_open (o ∷ os) = false

-- behind the last tree, with none open
abbrev pub over : ℕ → Cursor → Bool
over k c = leb k c.number && none_open c.opened

-- what `token_tree` answers
abbrev pub told : ℕ → Answer (List ℕ) → Result ℕ ℕ
told s (one t) = Ok (plus s t)
told s none = Ok s
told s done = Ok s
told s (two t u) = Ok s
told s (refused r n) = Err (refused_code r)

-- what `bump_or_end` answers
unfoldable pub moved : ℕ → Answer (List ℕ) → Result ℕ ℕ
moved s (one t) = Ok s
moved s none = Ok s
moved s done = Ok s
moved s (two t u) = Ok s
moved s (refused r n) = Err (refused_code r)

unfoldable pub looked : Reader (List ℕ) → ℕ → Cursor → ℕ → Result ℕ ℕ
looked R k c s = if over k c then Err s else told s (cursor_step word_shape R token_tree c).0

-- a cursor over k trees, at most so many rounds
unfoldable pub cursor_sum : Reader (List ℕ) → ℕ → ℕ → Cursor → ℕ → ℕ
cursor_sum R k zero c s = s
cursor_sum R k (suc m) c s =
    and_then (looked R k c s)
    (λ (t : ℕ). and_then (moved t (cursor_step word_shape R bump_or_end c).0) (cursor_sum R k m (cursor_step word_shape R bump_or_end c).1))
