-- What a call that moves the cursor promises, by value and over lent arrays alike.
use Rattle.std.specs.Prelude.{ℕ, ◌+◌, ◌-◌, ◌≡◌, List, [], ◌∷◌, eqb, length, set, replicate, Result, if◌then◌else◌}
use Rattle.format.specs.Cursor as calls
use Rattle.format.specs.Cursor.{Open, CursorCall, cursor_step}
use Rattle.format.specs.Tables.{Mode}
use Rattle.format.specs.Buffer.{word_shape, own_reader}
use Rattle.format.specs.Loose.{loose_at, reported_shape, reported}
use Rattle.tree.specs.declared.refusal.Refusal.{Refusal}
use Rattle.walk.specs.Source.{tree_reader, report_shape, answer_words, answer_report}
use Rattle.cursor.specs.Open.{cursor_of}
use Rattle.cursor.specs.Plan.{answer_of, Planned}
use Rattle.cursor.specs.declared.state.At.{At}
use Rattle.cursor.specs.declared.plan.Reply.{Reply}
use Rattle.cursor.specs.declared.plan.Change.{Change}
use Rattle.cursor.specs.declared.plan.Change.TheVariants.{Stay, On, Open as Opens, Shut}
use Rattle.cursor.specs.declared.cursor.Cursor.{Cursor}
use Rattle.cursor.specs.declared.cursor.Next.{Next}

abbrev pub at_of : Cursor → At
at_of c = record { place = c.place; number = c.number; depth = c.depth }

abbrev pub fresh_cursor : Cursor
fresh_cursor =
    record {
      place = 0;
      number = 0;
      depth = 0;
      numbers = replicate 256 0;
      counts = replicate 256 0;
      places = replicate 256 0;
    }

-- an array behind a call on a cursor with d open subtrees, after which these are open: with one more the last one's value stands at d.
-- "Entries of the arrays past the open ones are .. handed back as they were, but for the one that an opening writes"
unfoldable pub written : (Open → ℕ) → List ℕ → ℕ → List Open → List ℕ
written f a d [] = a
written f a d (o ∷ os) = if eqb (length os) d then set a d (f o) else a

-- the state without its arrays
abbrev pub state_of : calls.Cursor → At
state_of c = record { place = c.place; number = c.number; depth = length c.opened }

-- "`Vec` stacks: arrays of 256"
pub record Arrays (ns cs ps : List ℕ) : Type 0 where
  pub numbers : length ns ≡ 256
  pub counts : length cs ≡ 256
  pub places : length ps ≡ 256

-- the answer: the one tree that the tables give, with its report; by list words what the definitions' reader reads, without and with reports; the next state
-- and all of the arrays
pub record Moves (b : List ℕ) (k : ℕ) (parts symbols : List ℕ) (call : CursorCall) (c : At) (ns cs ps : List ℕ)
    (answer : Result Reply Refusal) (c' : At) (ns' cs' ps' : List ℕ) : Type 0 where
  pub exact : answer_of answer ≡ (cursor_step report_shape (reported (loose_at b) (tree_reader b k parts symbols)) call (cursor_of c ns cs ps)).0
  pub words : answer_words (answer_of answer) ≡ (cursor_step word_shape (own_reader b k parts symbols) call (cursor_of c ns cs ps)).0
  pub reports : answer_report (answer_of answer) ≡ (cursor_step (reported_shape word_shape) (reported (loose_at b) (own_reader b k parts symbols)) call (cursor_of c ns cs ps)).0
  pub state : c' ≡ state_of (cursor_step word_shape (own_reader b k parts symbols) call (cursor_of c ns cs ps)).1
  pub numbers : ns' ≡ written (λ o. o.number) ns c.depth (cursor_step word_shape (own_reader b k parts symbols) call (cursor_of c ns cs ps)).1.opened
  pub counts : cs' ≡ written (λ o. o.count) cs c.depth (cursor_step word_shape (own_reader b k parts symbols) call (cursor_of c ns cs ps)).1.opened
  pub places : ps' ≡ written (λ o. o.place) ps c.depth (cursor_step word_shape (own_reader b k parts symbols) call (cursor_of c ns cs ps)).1.opened
  -- so that the next cursor is the definition's
  pub next : Arrays ns cs ps → cursor_of c' ns' cs' ps' ≡ (cursor_step word_shape (own_reader b k parts symbols) call (cursor_of c ns cs ps)).1

-- by value
abbrev pub Stepped : List ℕ → ℕ → List ℕ → List ℕ → CursorCall → Cursor → Next → Type 0
Stepped b k parts symbols call c r =
    Moves b k parts symbols call (at_of c) c.numbers c.counts c.places r.answer (at_of r.cursor)
    r.cursor.numbers r.cursor.counts r.cursor.places

-- ---- a change carried out

unfoldable pub moved : Change → At → At
moved Stay c = c
moved (On next) c = record { place = next; number = c.number + 1; depth = c.depth }
moved (Opens o) c = record { place = o.next; number = c.number + 1; depth = c.depth + 1 }
moved Shut c = record { place = c.place; number = c.number; depth = c.depth - 1 }

unfoldable pub stored : Change → List ℕ → ℕ → ℕ → List ℕ
stored Stay a d v = a
stored (On next) a d v = a
stored (Opens o) a d v = set a d v
stored Shut a d v = a

unfoldable pub count_in : Change → ℕ
count_in Stay = 0
count_in (On next) = 0
count_in (Opens o) = o.count.0
count_in Shut = 0

pub record Applied (c : At) (change : Change) (ns cs ps : List ℕ) (c' : At) (ns' cs' ps' : List ℕ) : Type 0 where
  pub state : c' ≡ moved change c
  pub numbers : ns' ≡ stored change ns c.depth c.number
  pub counts : cs' ≡ stored change cs c.depth (count_in change)
  pub places : ps' ≡ stored change ps c.depth c.place

-- a call over the tables of a mode: a plan, carried out
pub record MovesIn (b : List ℕ) (k : ℕ) (M : Mode) (call : CursorCall) (c : At) (ns cs ps : List ℕ)
    (answer : Result Reply Refusal) (c' : At) (ns' cs' ps' : List ℕ) : Type 0 where
  pub change : Change
  pub planned : Planned b k M call c ns cs ps (record { answer = answer; change = change })
  pub applied : Applied c change ns cs ps c' ns' cs' ps'
