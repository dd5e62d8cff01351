-- What the calls that look promise.
use Rattle.std.specs.Prelude.{ℕ, ◌+◌, ◌≡◌, List, [], ◌∷◌, Option, Some, None, Result, Ok, Err}
use Rattle.format.specs.Reader as format
use Rattle.format.specs.Cursor.{token_tree, peek_two_leaves, tree_here, second_leaf, first_leaf, cursor_step}
use Rattle.format.specs.Tables.{Mode}
use Rattle.format.specs.Buffer.{word_shape, own_reader}
use Rattle.tree.specs.declared.refusal.Refusal.{Refusal}
use Rattle.tree.specs.declared.types.TokenTree.{TokenTree}
use Rattle.tree.specs.declared.types.TokenTree.TheVariants as trees
use Rattle.format.specs.Loose.{Loose, loose_at, reported_shape, reported}
use Rattle.tree.specs.Loose.{loose_of}
use Rattle.walk.specs.Source.{tree_reader, report_shape, report_reader_in, answer_words, answer_report}
use Rattle.cursor.specs.Open.{cursor_of}
use Rattle.cursor.specs.Plan.{answer_of}
use Rattle.cursor.specs.Moves.{at_of}
use Rattle.cursor.specs.declared.state.At.{At}
use Rattle.cursor.specs.declared.plan.Reply.{Reply}
use Rattle.cursor.specs.declared.look.Ahead.{Ahead}
use Rattle.cursor.specs.declared.cursor.Cursor.{Cursor}

-- ---- one tree

-- `token_tree` on a cursor: the one tree that the tables give, with its report, and by list words what the definitions' reader reads, without and with reports
pub record Tells (b : List ℕ) (k : ℕ) (parts symbols : List ℕ) (c : At) (ns cs ps : List ℕ) (r : Result Reply Refusal) : Type 0 where
  pub exact : answer_of r ≡ (cursor_step report_shape (reported (loose_at b) (tree_reader b k parts symbols)) token_tree (cursor_of c ns cs ps)).0
  pub words : answer_words (answer_of r) ≡ (cursor_step word_shape (own_reader b k parts symbols) token_tree (cursor_of c ns cs ps)).0
  pub reports : answer_report (answer_of r) ≡ (cursor_step (reported_shape word_shape) (reported (loose_at b) (own_reader b k parts symbols)) token_tree (cursor_of c ns cs ps)).0

-- by value
abbrev pub TellsOf : List ℕ → ℕ → List ℕ → List ℕ → Cursor → Result Reply Refusal → Type 0
TellsOf b k parts symbols c r = Tells b k parts symbols (at_of c) c.numbers c.counts c.places r

-- ---- two leaves

-- a leaf with its report, as a pair
abbrev pub ahead_of : Ahead → TokenTree × Loose
ahead_of a = (trees.Leaf a.leaf, loose_of a.loose)

abbrev pub both_of : List Ahead → format.Answer (TokenTree × Loose)
both_of [] = format.none
both_of (a ∷ []) = format.none
both_of (a ∷ b ∷ more) = format.two (ahead_of a) (ahead_of b)

-- "two leaves, the nearer one first"
unfoldable pub peek_of : Result (Option (List Ahead)) Refusal → format.Answer (TokenTree × Loose)
peek_of (Ok (Some leaves)) = both_of leaves
peek_of (Ok None) = format.none
peek_of (Err r) = format.refused r.number r.tree

pub record Peeks (b : List ℕ) (k : ℕ) (parts symbols : List ℕ) (c : At) (ns cs ps : List ℕ) (r : Result (Option (List Ahead)) Refusal) : Type 0 where
  pub exact : peek_of r ≡ (cursor_step report_shape (reported (loose_at b) (tree_reader b k parts symbols)) peek_two_leaves (cursor_of c ns cs ps)).0
  pub words : answer_words (peek_of r) ≡ (cursor_step word_shape (own_reader b k parts symbols) peek_two_leaves (cursor_of c ns cs ps)).0
  pub reports : answer_report (peek_of r) ≡ (cursor_step (reported_shape word_shape) (reported (loose_at b) (own_reader b k parts symbols)) peek_two_leaves (cursor_of c ns cs ps)).0

-- by value
abbrev pub PeeksOf : List ℕ → ℕ → List ℕ → List ℕ → Cursor → Result (Option (List Ahead)) Refusal → Type 0
PeeksOf b k parts symbols c r = Peeks b k parts symbols (at_of c) c.numbers c.counts c.places r

-- ---- the same over the tables of a mode, and what the parts of a call promise

pub record TellsIn (b : List ℕ) (k : ℕ) (M : Mode) (c : At) (ns cs ps : List ℕ) (r : Result Reply Refusal) : Type 0 where
  pub exact : answer_of r ≡ (cursor_step report_shape (report_reader_in b k M) token_tree (cursor_of c ns cs ps)).0

pub record PeeksIn (b : List ℕ) (k : ℕ) (M : Mode) (c : At) (ns cs ps : List ℕ) (r : Result (Option (List Ahead)) Refusal) : Type 0 where
  pub exact : peek_of r ≡ (cursor_step report_shape (report_reader_in b k M) peek_two_leaves (cursor_of c ns cs ps)).0

pub record Here (b : List ℕ) (M : Mode) (c : At) (r : Result Reply Refusal) : Type 0 where
  pub step : (k : ℕ) → answer_of r ≡ tree_here report_shape (report_reader_in b k M) c.number ((report_reader_in b k M).read c.number c.place)

pub record Second (b : List ℕ) (M : Mode) (n p : ℕ) (near : Ahead) (r : Result (Option (List Ahead)) Refusal) : Type 0 where
  pub step : (k : ℕ) → peek_of r ≡ second_leaf report_shape (report_reader_in b k M) n (ahead_of near) ((report_reader_in b k M).read (n + 1) p)

pub record First (b : List ℕ) (M : Mode) (c : At) (r : Result (Option (List Ahead)) Refusal) : Type 0 where
  pub step : (k : ℕ) → peek_of r ≡ first_leaf report_shape (report_reader_in b k M) c.number ((report_reader_in b k M).read c.number c.place)
