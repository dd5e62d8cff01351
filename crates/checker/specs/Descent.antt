-- What a descent over the trees of a buffer has found out, of any reader: it has come to a tree, or has stopped at one.
use Rattle.std.specs.Prelude.{ℕ, ◌+◌, ◌-◌, ◌≤◌, true, false, ◌≡◌, ltb, if◌then◌else◌}
use Rattle.format.specs.Verdict.{Verdict, passed, refused, ◌and_then◌, each_from, each}
use Rattle.format.specs.Reader.{Shape, Reader}
use Rattle.format.specs.Plain.{end_of, sub}
use Rattle.format.specs.Nest.{nest}
use Rattle.format.proofs.NestRun.{run}
use Rattle.format.specs.Check.{place_of, listing, stored, read_rule, whole_rule, honest_rule}

-- the verdict of a lowest wrong subtree w of k trees; k says that there is none
abbrev pub wrong_at : ℕ → ℕ → Verdict
wrong_at k w = if ltb w k then refused 9 w else passed

module _ {Tree : Type 0} (S : Shape Tree) (R : Reader Tree) where
  -- the reading of the trees from n to before end; their byte counts
  abbrev pub read_run : ℕ → ℕ → Verdict
  read_run n end = each_from (read_rule S R) (end - n) n

  abbrev pub honest_run : ℕ → ℕ → Verdict
  honest_run n end = each_from (honest_rule S R) (end - n) n

  -- tree n is read, as a leaf
  pub record LeafAt (n next : ℕ) : Type 0 where
    pub readable : read_rule S R n ≡ passed
    pub flat : sub S (listing S R) n ≡ false
    pub place : next ≡ place_of S R (n + 1)

  -- tree n is read, as a subtree
  pub record SubtreeAt (n count kids next : ℕ) : Type 0 where
    pub readable : read_rule S R n ≡ passed
    pub holds : sub S (listing S R) n ≡ true
    pub ends : end_of S (listing S R) n ≡ n + 1 + count
    pub bytes : stored S R n ≡ kids
    pub place : next ≡ place_of S R (n + 1)

  -- of the trees from n to before end, under depth: those before m are read and nest, and w is the lowest with a wrong byte count. nesting is the verdict of rows 3 and 4
  pub record Upto (nesting : Verdict) (n end depth m at w : ℕ) : Type 0 where
    pub inside : m ≤ end
    pub place : at ≡ place_of S R m
    pub reads : read_run n end ≡ read_run m end
    pub nests : nesting ≡ run S (listing S R) m end depth
    pub honest : honest_run n end ≡ (wrong_at R.trees w and_then honest_run m end)

  -- those before t are read, and row r of 3 and 4 is given at t
  pub record Unnests (nesting : Verdict) (n end r t at : ℕ) : Type 0 where
    pub inside : t ≤ end
    pub place : at ≡ place_of S R t
    pub reads : read_run n end ≡ read_run t end
    pub nests : nesting ≡ refused r t

  -- of the trees from n on, those before m are read
  pub record ReadTo (n m at : ℕ) : Type 0 where
    pub inside : m ≤ R.trees
    pub place : at ≡ place_of S R m
    pub reads : read_run n R.trees ≡ read_run m R.trees

  -- the check behind row 1
  unfoldable pub after_sizes : Verdict
  after_sizes =
      each (read_rule S R) R.trees and_then whole_rule S R and_then nest S (listing S R) and_then each (honest_rule S R) R.trees
