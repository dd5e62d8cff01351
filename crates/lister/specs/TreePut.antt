-- What the line of one tree leaves: the run, the place behind it, and the stack.
use Rattle.std.specs.Prelude.{ℕ, ◌+◌, ◌≤◌, ◌≡◌, List, length}
use Rattle.format.specs.Tree.{Raw}
use Rattle.format.specs.Nest.{still_open}
use Rattle.format.proofs.OpenEnds.{open_ends}
use Rattle.format.specs.Lister.{line}
use Rattle.text.specs.Typed.{Typed}
use Rattle.lister.specs.declared.list.Done.{Done}
use Rattle.lister.specs.BySizes.{sort_of}
use Rattle.lister.specs.Ends.{push}

pub record TreePut (out : List ℕ) (at : ℕ) (ends : List ℕ) (depth n first : ℕ) (t : Raw) (r : Done) (out' ends' : List ℕ) : Type 0 where
  pub size : length ends' ≡ 256
  pub few : r.depth ≤ 256
  pub left : open_ends ends' r.depth ≡ push n t (still_open n (open_ends ends depth))
  pub text : Typed out at (line n first (length (still_open n (open_ends ends depth)) + 1) (sort_of t)) r.next out'
