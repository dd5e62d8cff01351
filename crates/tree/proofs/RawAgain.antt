-- The definitions' tree of a value, and the value of a definitions' tree: each is the other back.
use mathlib.Core.Path.{◌≡◌, refl}
use Rattle.format.specs.Tree.{Raw, punct, ident, literal, subtree}
use Rattle.tree.specs.Raw.{raw_tree, raw_of}
use Rattle.tree.specs.declared.raw.RawTree.{RawTree}
use Rattle.tree.specs.declared.raw.RawTree.TheVariants.{Punct, Ident, Literal, Subtree}

pub tree_again : (t : RawTree) → raw_tree (raw_of t) ≡ t
unfolding raw_tree raw_of
tree_again (Punct p) = refl
tree_again (Ident p) = refl
tree_again (Literal p) = refl
tree_again (Subtree p) = refl

pub raw_again : (t : Raw) → raw_of (raw_tree t) ≡ t
unfolding raw_tree raw_of
raw_again (punct s c x) = refl
raw_again (ident s i r) = refl
raw_again (literal s i k r x) = refl
raw_again (subtree s t n d) = refl
