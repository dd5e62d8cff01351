-- The definitions' report on a tree, case by case.
use Rattle.std.specs.Prelude.{true, false}
use Rattle.format.specs.Loose as format
use Rattle.format.specs.Loose.{loose_leaf, loose_shared, loose_both}
use Rattle.tree.specs.declared.loose.Loose.{Loose}
use Rattle.tree.specs.declared.loose.Loose.TheVariants.{None, Opening, Closing, Shared, Both}
use Rattle.tree.specs.declared.loose.ReportedTree.{ReportedTree}
use Rattle.tree.specs.declared.types.TokenTree.{TokenTree}

unfoldable pub loose_of : Loose → format.Loose
loose_of None = loose_leaf false
loose_of Opening = loose_leaf true
loose_of Closing = loose_both false true
loose_of Shared = loose_shared true
loose_of Both = loose_both true true

-- a tree with its report, as a pair
abbrev pub reported_of : ReportedTree → TokenTree × format.Loose
reported_of t = (t.tree, loose_of t.loose)
