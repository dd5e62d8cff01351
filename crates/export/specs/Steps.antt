-- Answers of walk steps and cursor calls in one number, and what they leave in lent words.
use Rattle.std.specs.Prelude.{ℕ, ◌+◌, Bool, true, false, ◌≡◌, List, [], ◌∷◌, ◌++◌, ltb, length, if◌then◌else◌, Option, Result}
use Rattle.format.specs.Width.{span_size, tree_size}
use Rattle.format.specs.Word.{put}
use Rattle.format.specs.Reader.{Answer, done, none, one, two, refused, mapped}
use Rattle.format.specs.Walk as steps
use Rattle.format.specs.LastSpan.{last_reported}
use Rattle.format.specs.Loose.{Loose, bit, loose_at, reported_shape, reported}
use Rattle.format.specs.Buffer.{word_shape, own_reader}
use Rattle.tree.specs.declared.refusal.Refusal.{Refusal}
use Rattle.walk.specs.Source.{answer_report}
use Rattle.walk.specs.Walk.{walk_of, answer_of}
use Rattle.walk.specs.Last.{last_of}
use Rattle.walk.specs.declared.walk.Walk.{Walk}
use Rattle.walk.specs.declared.walk.Step.{Step}
use Rattle.walk.specs.declared.last_span.ReportedSpan.{ReportedSpan}
use Rattle.export.specs.Replies.{refused_code}

-- ---- reports as words

abbrev pub loose_size : ℕ
loose_size = 3

abbrev pub loose_words : Loose → List ℕ
loose_words x = bit x.opening ∷ bit x.closing ∷ x.spans ∷ []

-- a tree's words, then its report
abbrev pub reported_size : ℕ
reported_size = tree_size + loose_size

abbrev pub report_list : List ℕ × Loose → List ℕ
report_list t = t.0 ++ loose_words t.1

abbrev pub answer_list : Answer (List ℕ × Loose) → Answer (List ℕ)
answer_list a = mapped report_list a

-- a span's words, then its report
abbrev pub last_size : ℕ
last_size = span_size + 1

abbrev pub last_list : Answer (List ℕ × Bool) → Answer (List ℕ)
last_list a = mapped (λ (s : List ℕ × Bool). s.0 ++ bit s.1 ∷ []) a

-- ---- replies

-- 0 none, 1 a tree or a span, 2 two leaves, 3 nothing to hand back
abbrev pub answer_code : Answer (List ℕ) → ℕ
answer_code none = 0
answer_code (one t) = 1
answer_code (two t u) = 2
answer_code done = 3
answer_code (refused r n) = refused_code (record { number = r; tree = n })

-- what is handed back goes to lent words
abbrev pub words_after : Answer (List ℕ) → List ℕ → List ℕ
words_after none w = w
words_after (one t) w = put w 0 t
words_after (two t u) w = put w 0 (t ++ u)
words_after done w = w
words_after (refused r n) w = w

-- so does the next state; "A refusal .. changes nothing lent"
abbrev pub state_after : Answer (List ℕ) → List ℕ → List ℕ → List ℕ
state_after none state w = put w 0 state
state_after (one t) state w = put w 0 state
state_after (two t u) state w = put w 0 state
state_after done state w = put w 0 state
state_after (refused r n) state w = w

-- an answer, the next state, and the lent words behind the call
pub record Replied (a : Answer (List ℕ)) (state next words : List ℕ) (r : ℕ) (next' words' : List ℕ) : Type 0 where
  pub reply : r ≡ answer_code a
  pub after : next' ≡ state_after a state next
  pub handed : words' ≡ words_after a words

-- by whether there are fewer lent words than a state's 3, or than so many for trees
abbrev pub if_short : {A : Type 0} → ℕ → List ℕ → List ℕ → A → A → A
if_short m next words x y = if ltb (length next) 3 then x else (if ltb (length words) m then x else y)

-- that is 6
abbrev pub with_room : ℕ → List ℕ → List ℕ → Answer (List ℕ) → Answer (List ℕ)
with_room m next words a = if_short m next words (refused 6 0) a

-- ---- walks

abbrev pub step_call : Bool → steps.WalkCall
step_call true = steps.skip
step_call false = steps.advance

abbrev pub walk_list : Walk → List ℕ
walk_list w = w.place ∷ w.number ∷ w.left ∷ []

abbrev pub state_list : steps.Walk → List ℕ
state_list w = w.place ∷ w.number ∷ w.left ∷ []

pub record StepStored (s : Step) (next words : List ℕ) (r : ℕ) (next' words' : List ℕ) : Type 0 where
  pub replied : Replied (answer_list (answer_report (answer_of s.answer))) (walk_list s.walk) next words r next' words'

module _ (b : List ℕ) (k : ℕ) (parts symbols : List ℕ) (w : Walk) where
  abbrev pub stepped : Bool → Answer (List ℕ × Loose) × steps.Walk
  stepped skips = steps.walk_step (reported_shape word_shape) (reported (loose_at b) (own_reader b k parts symbols)) (step_call skips) (walk_of w)

  pub record WalkReplied (skips : Bool) (next words : List ℕ) (r : ℕ) (next' words' : List ℕ) : Type 0 where
    pub replied : Replied (with_room reported_size next words (answer_list (stepped skips).0)) (state_list (stepped skips).1) next words r next' words'

-- ---- the last span

abbrev pub with_span : List ℕ → Answer (List ℕ) → Answer (List ℕ)
with_span words a = if ltb (length words) last_size then refused 6 0 else a

pub record LastStored (a : Result (Option ReportedSpan) Refusal) (words : List ℕ) (r : ℕ) (words' : List ℕ) : Type 0 where
  pub reply : r ≡ answer_code (last_list (last_of a))
  pub handed : words' ≡ words_after (last_list (last_of a)) words

pub record LastReplied (b : List ℕ) (k : ℕ) (parts symbols : List ℕ) (w : Walk) (words : List ℕ) (r : ℕ) (words' : List ℕ) : Type 0 where
  pub reply : r ≡ answer_code (with_span words (last_list (last_reported b k parts symbols (walk_of w))))
  pub handed : words' ≡ words_after (with_span words (last_list (last_reported b k parts symbols (walk_of w)))) words
