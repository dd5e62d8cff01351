-- What a call answers, in document 01's numbers and values, and how it changes the cursor.
use Rattle.std.specs.Prelude.{ℕ, ◌+◌, ◌<◌, ◌≡◌, List, ◌∷◌, length, drop, Result, Ok, Err}
use Rattle.format.specs.Reader as format
use Rattle.format.specs.Cursor as calls
use Rattle.format.specs.Cursor.{Open, Cursor, CursorCall}
use Rattle.format.specs.Tables.{Mode}
use Rattle.format.specs.Loose.{Loose}
use Rattle.tree.specs.Loose.{reported_of}
use Rattle.tree.specs.Raw.{RawAt, raw_of}
use Rattle.tree.specs.Types.{resolved}
use Rattle.tree.specs.declared.refusal.Refusal.{Refusal}
use Rattle.tree.specs.declared.types.TokenTree.{TokenTree}
use Rattle.decode.specs.Decode.{TreeAt}
use Rattle.walk.specs.Source.{report_shape, report_reader_in}
use Rattle.cursor.specs.Open.{opened, cursor_of}
use Rattle.cursor.specs.declared.state.At.{At}
use Rattle.cursor.specs.declared.plan.Reply.{Reply}
use Rattle.cursor.specs.declared.plan.Reply.TheVariants.{Done, None, Tree}
use Rattle.cursor.specs.declared.plan.Change.{Change}
use Rattle.cursor.specs.declared.plan.Change.TheVariants as changes
use Rattle.cursor.specs.declared.plan.Plan.{Plan}

-- "A refusal gives its number and a tree number"
unfoldable pub answer_of : Result Reply Refusal → format.Answer (TokenTree × Loose)
answer_of (Ok Done) = format.done
answer_of (Ok None) = format.none
answer_of (Ok (Tree t)) = format.one (reported_of t)
answer_of (Err r) = format.refused r.number r.tree

-- "tree n is opened if a subtree, and n grows by 1"; "Shutting keeps n and the place"
unfoldable pub changed : Change → Cursor → Cursor
changed changes.Stay c = c
changed (changes.On next) c = record { number = c.number + 1; place = next; opened = c.opened }
changed (changes.Open o) c =
    record {
      number = c.number + 1;
      place = o.next;
      opened = record { number = c.number; count = o.count.0; place = c.place } ∷ c.opened;
    }
changed changes.Shut c = record { number = c.number; place = c.place; opened = drop 1 c.opened }

abbrev pub plan_of : Plan → Cursor → format.Answer (TokenTree × Loose) × Cursor
plan_of p c = (answer_of p.answer, changed p.change c)

abbrev pub refusal : ℕ → ℕ → Plan
refusal r n = record { answer = Err (record { number = r; tree = n }); change = changes.Stay }

abbrev pub doing : Change → Plan
doing change = record { answer = Ok Done; change = change }

-- the change fits into the numbers and the arrays
unfoldable pub May : At → Change → Type 0
May c changes.Stay = Unit {0}
May c (changes.On next) = c.number + 1 < 4294967296
May c (changes.Open o) = (c.number + 1 < 4294967296) × (c.depth < 256)
May c changes.Shut = 0 < c.depth

abbrev pub cursor_at : At → List Open → Cursor
cursor_at c os = record { number = c.number; place = c.place; opened = os }

-- ---- what the parts of a call promise, over the tables of a mode

-- whatever the tables hold and the report says
pub record Enters (c : At) (y : RawAt) (r : Plan) : Type 0 where
  pub step : (R : format.Reader (TokenTree × Loose)) (M : Mode) (n : ℕ) (x : Loose) (os : List Open) → length os ≡ c.depth
      → plan_of r (cursor_at c os) ≡ calls.bumped report_shape R (cursor_at c os) (format.got (resolved M n (raw_of y.tree), x) y.next y.children.0)
  pub may : May c r.change

pub record GoesOn (b : List ℕ) (k : ℕ) (M : Mode) (c : At) (r : Plan) : Type 0 where
  pub step : (os : List Open) → length os ≡ c.depth → plan_of r (cursor_at c os) ≡ calls.go_on report_shape (report_reader_in b k M) (cursor_at c os)
  pub may : May c r.change

pub record Shuts (y : TreeAt) (x : Loose) (count : ℕ) (r : Plan) : Type 0 where
  pub step : (R : format.Reader (TokenTree × Loose)) (c : At) (o : Open) (os : List Open) → o.count ≡ count
      → plan_of r (cursor_at c (o ∷ os)) ≡ calls.shut report_shape R (cursor_at c (o ∷ os)) o os (format.got (y.tree, x) y.next y.children.0)
  pub may : (c : At) → 0 < c.depth → May c r.change

pub record ShutsLast (b : List ℕ) (M : Mode) (c : At) (ns cs ps : List ℕ) (r : Plan) : Type 0 where
  pub step : (k : ℕ) → plan_of r (cursor_of c ns cs ps) ≡ calls.shut_last report_shape (report_reader_in b k M) (cursor_of c ns cs ps) (opened ns cs ps c.depth)
  pub may : May c r.change

-- a call: its answer, and the cursor that its change makes
pub record Planned (b : List ℕ) (k : ℕ) (M : Mode) (call : CursorCall) (c : At) (ns cs ps : List ℕ) (r : Plan) : Type 0 where
  pub step : plan_of r (cursor_of c ns cs ps) ≡ calls.cursor_step report_shape (report_reader_in b k M) call (cursor_of c ns cs ps)
  pub may : May c r.change
