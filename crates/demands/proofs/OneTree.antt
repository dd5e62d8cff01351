-- Reading one tree over document 01's tables is reading it in their mode, behind row 1.
use Prim.Native.Nat.{ℕ, ◌/◌}
use mathlib.Core.Bool.{Bool, true, false, not}
use mathlib.Core.Path.{◌≡◌, refl, sym, ap, ◌∙◌}
use mathlib.Core.List.{List}
use borrow.Author.Tests.{not-true, not-false}
use lib.ListN.{length}
use Rattle.std.specs.Prelude.{Result, Ok, Err, if◌then◌else◌}
use Rattle.format.specs.Reader.{Reply, got, bad}
use Rattle.format.specs.Loose as format
use Rattle.format.specs.Loose.{beside}
use Rattle.format.specs.Width.{part_size}
use Rattle.format.specs.Tables.{Mode, own_limits, own_tables}
use Rattle.tree.specs.Mode.{limits_of, mode_of, Whole}
use Rattle.tree.specs.declared.limits.Limits.{Limits}
use Rattle.tree.specs.declared.types.TokenTree.{TokenTree}
use Rattle.tree.proofs.OwnMode.{pair_of, own_whole, own_mode_lem}
use Rattle.decode.specs.Decode.{TreeAt, tree_answer, decoded_of, read_in, decoded_at, decoded}
use Rattle.decode.specs.declared.loose.Reported.{Reported}

-- what a reader answers as the definitions' reply
unfoldable pub reply_of : Result TreeAt ℕ → Reply TokenTree
reply_of (Ok y) = got y.tree y.next y.children.0
reply_of (Err r) = bad r

reply_of_lem : (z : Reply TokenTree) → reply_of (tree_answer z) ≡ z
unfolding reply_of tree_answer
reply_of_lem (got t n k) = refl
reply_of_lem (bad r) = refl

module _ (b parts symbols : List ℕ) (n at : ℕ) (x : format.Loose) (s : Bool) (e : s ≡ (own_tables parts symbols).sized) where
  pub sizes_1 : not s ≡ true → decoded_of (Err 1) ≡ beside x (decoded b parts symbols n at)
  unfolding decoded decoded_of
  sizes_1 h = let k : (own_tables parts symbols).sized ≡ false = sym e ∙ not-true s h in rw k

  module _ (h : not s ≡ false) (N : Limits) (d : limits_of N ≡ own_limits (length parts / part_size) (length symbols)) where
    pub sizes_whole : Whole N parts (pair_of N parts) symbols
    sizes_whole = own_whole parts symbols (sym e ∙ not-false s h) N d

    pub sizes_silent : (a : Result TreeAt ℕ) → a ≡ tree_answer (read_in b (mode_of N parts (pair_of N parts) symbols) n at)
        → (r : Result (Reported TokenTree) ℕ) → decoded_of r ≡ beside x (reply_of a) → decoded_of r ≡ beside x (decoded b parts symbols n at)
    unfolding decoded
    sizes_silent a f r q =
        let k : (own_tables parts symbols).sized ≡ true = sym e ∙ not-false s h in
        let z : reply_of a ≡ read_in b (mode_of N parts (pair_of N parts) symbols) n at = ap reply_of f ∙ reply_of_lem _ in
        let m : read_in b (mode_of N parts (pair_of N parts) symbols) n at ≡ decoded_at b parts symbols n at = ap (λ (M : Mode). read_in b M n at) (own_mode_lem parts symbols k N d) in
        let w : decoded_at b parts symbols n at ≡ decoded b parts symbols n at = sym (ap (λ (c : Bool). if c then decoded_at b parts symbols n at else bad 1) k) in
        q ∙ ap (beside x) (z ∙ m ∙ w)
