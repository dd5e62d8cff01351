-- Lists of cursor calls: what the functions hand back, by their contracts alone.
use Rattle.std.specs.Prelude.{ℕ, ◌≡◌, List, [], ◌∷◌, Option, Result}
use Rattle.format.specs.Reader as format
use Rattle.format.specs.Cursor as calls
use Rattle.format.specs.Cursor.{CursorCall, bump, end, bump_or_end, token_tree, peek_two_leaves}
use Rattle.tree.specs.declared.refusal.Refusal.{Refusal}
use Rattle.tree.specs.declared.types.TokenTree.{TokenTree}
use Rattle.format.specs.Loose.{Loose}
use Rattle.walk.specs.Source.{answer_words, answer_report}
use Rattle.cursor.specs.Open.{cursor_of}
use Rattle.cursor.specs.Plan.{answer_of}
use Rattle.cursor.specs.Moves.{at_of, Moves}
use Rattle.cursor.specs.Look.{Tells, peek_of, Peeks}
use Rattle.cursor.specs.declared.state.At.{At}
use Rattle.cursor.specs.declared.plan.Reply.{Reply}
use Rattle.cursor.specs.declared.look.Ahead.{Ahead}
use Rattle.cursor.specs.declared.cursor.Cursor.{Cursor}

-- a cursor, by value or over lent arrays
pub record Held : Type 0 where
  pub at : At
  pub numbers : List ℕ
  pub counts : List ℕ
  pub places : List ℕ

abbrev pub held : Cursor → Held
held c = record { at = at_of c; numbers = c.numbers; counts = c.counts; places = c.places }

abbrev pub held_as : Held → calls.Cursor
held_as h = cursor_of h.at h.numbers h.counts h.places

module _ (b : List ℕ) (k : ℕ) (parts symbols : List ℕ) where
  -- a call that moves: an answer and the next cursor
  pub record MovedOn (call : CursorCall) (h : Held) (a : format.Answer (TokenTree × Loose)) (h' : Held) : Type 0 where
    pub answer : Result Reply Refusal
    pub said : a ≡ answer_of answer
    pub moves : Moves b k parts symbols call h.at h.numbers h.counts h.places answer h'.at h'.numbers h'.counts h'.places

  -- the two that look: the cursor stays
  pub record Told (h : Held) (a : format.Answer (TokenTree × Loose)) (h' : Held) : Type 0 where
    pub answer : Result Reply Refusal
    pub said : a ≡ answer_of answer
    pub tells : Tells b k parts symbols h.at h.numbers h.counts h.places answer
    pub stays : h' ≡ h

  pub record Peeked (h : Held) (a : format.Answer (TokenTree × Loose)) (h' : Held) : Type 0 where
    pub leaves : Result (Option (List Ahead)) Refusal
    pub said : a ≡ peek_of leaves
    pub peeks : Peeks b k parts symbols h.at h.numbers h.counts h.places leaves
    pub stays : h' ≡ h

  abbrev pub Handed : CursorCall → Held → format.Answer (TokenTree × Loose) → Held → Type 0
  Handed bump h a h' = MovedOn bump h a h'
  Handed end h a h' = MovedOn end h a h'
  Handed bump_or_end h a h' = MovedOn bump_or_end h a h'
  Handed token_tree h a h' = Told h a h'
  Handed peek_two_leaves h a h' = Peeked h a h'

  -- these were handed back, each call being given the cursor that the one before left
  unfoldable pub Ran : List CursorCall → Held → List (format.Answer (TokenTree × Loose) × Held) → Type 0
  Ran [] h [] = Unit {0}
  Ran [] h (r ∷ rs) = ⊥
  Ran (c ∷ cs) h [] = ⊥
  Ran (c ∷ cs) h (r ∷ rs) = Handed c h r.0 r.1 × Ran cs r.1 rs

-- by list words and the definitions' cursor
abbrev pub in_words : format.Answer (TokenTree × Loose) × Held → format.Answer (List ℕ) × calls.Cursor
in_words r = (answer_words r.0, held_as r.1)

-- and with reports
abbrev pub in_report : format.Answer (TokenTree × Loose) × Held → format.Answer (List ℕ × Loose) × calls.Cursor
in_report r = (answer_report r.0, held_as r.1)
