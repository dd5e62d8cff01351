-- Tree n of a buffer as the source's tree: read, judged, and its indices looked up.
use Rattle.std.specs.Prelude.{ℕ, List, Result, Ok, Err, if◌then◌else◌}
use Rattle.format.specs.Reader.{Reply, got, bad}
use Rattle.format.specs.Tree.{Raw, tree_at}
use Rattle.format.specs.Tables.{rules, Mode, mode_tables, own_mode, own_tables}
use Rattle.format.specs.Buffer.{judge}
use Rattle.format.specs.Loose.{Loose}
use Rattle.tree.specs.Loose.{loose_of}
use Rattle.tree.specs.Types.{resolved}
use Rattle.tree.specs.declared.types.TokenTree.{TokenTree}
use Rattle.tree.specs.declared.raw.At.{At}
use Rattle.decode.specs.declared.loose.Reported.{Reported}

abbrev pub TreeAt : Type 0
TreeAt = At TokenTree

unfoldable pub tree_answer : Reply TokenTree → Result TreeAt ℕ
tree_answer (got t next kids) = Ok (record { tree = t; next = next; children = record { 0 = kids } })
tree_answer (bad r) = Err r

-- with its report
unfoldable pub decoded_of : Result (Reported TokenTree) ℕ → Reply (TokenTree × Loose)
decoded_of (Ok y) = got (y.tree, loose_of y.loose) y.next y.children.0
decoded_of (Err r) = bad r

-- what every reader of the source's trees reads over the tables of a mode: the tree shown by its entries
unfoldable pub read_in : List ℕ → Mode → ℕ → ℕ → Reply TokenTree
read_in b M n at = judge (resolved M) (rules (mode_tables M)) n at (tree_at b at)

-- the same of a tree that was read already
unfoldable pub shown_as : Mode → ℕ → ℕ → ℕ → ℕ → Raw → Reply TokenTree
shown_as M n at next kids t = judge (resolved M) (rules (mode_tables M)) n at (got t next kids)

-- document 01's table mode
abbrev pub decoded_at : List ℕ → List ℕ → List ℕ → ℕ → ℕ → Reply TokenTree
decoded_at b parts symbols n at = read_in b (own_mode parts symbols) n at

-- the same of one tree that is asked for by itself: "part words of 3", and the sizes of the tables, first
unfoldable pub decoded : List ℕ → List ℕ → List ℕ → ℕ → ℕ → Reply TokenTree
decoded b parts symbols n at = if (own_tables parts symbols).sized then decoded_at b parts symbols n at else bad 1
