-- Cursor calls, by value and over lent arrays alike: the reply in one number, and what is lent then.
use Rattle.std.specs.Prelude.{ℕ, zero, suc, ◌*◌, ◌≡◌, List, [], ◌∷◌, Option, Result}
use Rattle.format.specs.Reader as format
use Rattle.format.specs.Cursor as calls
use Rattle.format.specs.Cursor.{CursorCall, bump, end, bump_or_end, token_tree, peek_two_leaves, cursor_step}
use Rattle.format.specs.Buffer.{word_shape, own_reader}
use Rattle.format.specs.Loose.{loose_at, reported_shape, reported}
use Rattle.tree.specs.declared.refusal.Refusal.{Refusal}
use Rattle.walk.specs.Source.{shown_report, answer_report}
use Rattle.cursor.specs.Open.{cursor_of}
use Rattle.cursor.specs.Plan.{answer_of}
use Rattle.cursor.specs.Moves.{state_of, written}
use Rattle.cursor.specs.Look.{ahead_of, both_of, peek_of}
use Rattle.cursor.specs.declared.state.At.{At}
use Rattle.cursor.specs.declared.plan.Reply.{Reply}
use Rattle.cursor.specs.declared.look.Ahead.{Ahead}
use Rattle.export.specs.Steps.{reported_size, report_list, answer_list, Replied, if_short, with_room}

-- the calls by number; 4 and above look at two leaves
abbrev pub call_of : ℕ → CursorCall
call_of zero = bump
call_of (suc zero) = end
call_of (suc (suc zero)) = bump_or_end
call_of (suc (suc (suc zero))) = token_tree
call_of (suc (suc (suc (suc n)))) = peek_two_leaves

abbrev pub at_list : At → List ℕ
at_list c = c.place ∷ c.number ∷ c.depth ∷ []

-- a leaf ahead, as words
abbrev pub ahead_list : Ahead → List ℕ
ahead_list a = report_list (shown_report (ahead_of a))

pub record AnswerStored (a : Result Reply Refusal) (c : At) (next words : List ℕ) (r : ℕ) (next' words' : List ℕ) : Type 0 where
  pub replied : Replied (answer_list (answer_report (answer_of a))) (at_list c) next words r next' words'

pub record BothStored (l : List Ahead) (c : At) (next words : List ℕ) (r : ℕ) (next' words' : List ℕ) : Type 0 where
  pub replied : Replied (answer_list (answer_report (both_of l))) (at_list c) next words r next' words'

pub record LeavesStored (l : Result (Option (List Ahead)) Refusal) (c : At) (next words : List ℕ) (r : ℕ) (next' words' : List ℕ) : Type 0 where
  pub replied : Replied (answer_list (answer_report (peek_of l))) (at_list c) next words r next' words'

module _ (b : List ℕ) (k : ℕ) (parts symbols : List ℕ) (call : CursorCall) (c : At) (ns cs ps : List ℕ) where
  abbrev pub said : format.Answer (List ℕ)
  said = answer_list (cursor_step (reported_shape word_shape) (reported (loose_at b) (own_reader b k parts symbols)) call (cursor_of c ns cs ps)).0

  abbrev pub called : calls.Cursor
  called = (cursor_step word_shape (own_reader b k parts symbols) call (cursor_of c ns cs ps)).1

  -- what a call says and leaves
  pub record Called (a : format.Answer (List ℕ)) (c' : At) (ns' cs' ps' : List ℕ) : Type 0 where
    pub answer : a ≡ said
    pub state : c' ≡ state_of called
    pub numbers : ns' ≡ written (λ o. o.number) ns c.depth called.opened
    pub counts : cs' ≡ written (λ o. o.count) cs c.depth called.opened
    pub places : ps' ≡ written (λ o. o.place) ps c.depth called.opened

  -- with too few lent words the arrays stay too
  pub record CursorReplied (next words : List ℕ) (r : ℕ) (next' words' ns' cs' ps' : List ℕ) : Type 0 where
    pub replied : Replied (with_room (2 * reported_size) next words said) (at_list (state_of called)) next words r next' words'
    pub numbers : ns' ≡ if_short (2 * reported_size) next words ns (written (λ o. o.number) ns c.depth called.opened)
    pub counts : cs' ≡ if_short (2 * reported_size) next words cs (written (λ o. o.count) cs c.depth called.opened)
    pub places : ps' ≡ if_short (2 * reported_size) next words ps (written (λ o. o.place) ps c.depth called.opened)
