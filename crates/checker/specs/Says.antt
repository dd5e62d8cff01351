-- What the answers of the check's functions say. Not document 01's words: the contracts of `check` and `check_buffer` do without these.
use Rattle.std.specs.Prelude.{ℕ, Bool, Result, Ok, Err, ◌&&◌, ◌≡◌, ltb, leb, if◌then◌else◌}
use Rattle.format.specs.Verdict.{Verdict, passed, refused}
use Rattle.format.specs.Reader.{Shape, Reader}
use Rattle.format.specs.Tables.{tables_sized}
use Rattle.format.specs.Check.{place_of, listing}
use Rattle.format.specs.Nest.{nest}
use Rattle.format.proofs.NestRun.{run}
use Rattle.checker.specs.Descent.{read_run, Upto, Unnests}
use Rattle.tree.specs.declared.refusal.Refusal.{Refusal}
use Rattle.checker.specs.declared.check.Ran.{Ran}
use Rattle.checker.specs.declared.check.Stop.{Stop}
use Rattle.checker.specs.declared.check.Stop.TheVariants.{Unread, Unnested}

-- row 1: "Trees: 1 to 1,048,576. Span parts: 2 to 2,097,152. Symbols: 0 to 1,048,576."
abbrev pub is_sized : ℕ → ℕ → ℕ → Bool
is_sized trees parts symbols = leb 1 trees && leb trees 1048576 && tables_sized parts symbols

-- the first wrong subtree of two in a row, where trees says that there is none
abbrev pub earlier : ℕ → ℕ → ℕ → ℕ
earlier trees first second = if ltb first trees then first else second

module _ {Tree : Type 0} (S : Shape Tree) (R : Reader Tree) where
  -- the trees from n to before end: one of them cannot be read, or rows 3 and 4, which say v, refuse one
  unfoldable pub Stops : Verdict → ℕ → ℕ → Stop → Type 0
  Stops v n end (Unread f) = read_run S R n end ≡ refused f.number f.tree
  Stops v n end (Unnested f at) = Unnests S R v n end f.number f.tree at

  -- the same, or those before last are gone through
  unfoldable pub Goes : Verdict → ℕ → ℕ → ℕ → ℕ → Result Ran Stop → Type 0
  Goes v n end depth last (Ok y) = (y.tree ≡ last) × Upto S R v n end depth y.tree y.at y.wrong
  Goes v n end depth last (Err s) = Stops v n end s

  -- a run of trees, or one subtree and what is below it
  abbrev pub RunSays : ℕ → ℕ → ℕ → ℕ → Result Ran Stop → Type 0
  RunSays n end depth last = Goes (run S (listing S R) n end depth) n end depth last

  -- all trees
  abbrev pub RootSays : Result Ran Stop → Type 0
  RootSays = Goes (nest S (listing S R)) 0 R.trees 256 R.trees

  abbrev pub RootStops : Stop → Type 0
  RootStops = Stops (nest S (listing S R)) 0 R.trees

  -- the trees from n on
  unfoldable pub Ends : ℕ → Result ℕ Refusal → Type 0
  Ends n (Ok p) = (p ≡ place_of S R R.trees) × (read_run S R n R.trees ≡ passed)
  Ends n (Err f) = read_run S R n R.trees ≡ refused f.number f.tree
