use borrow.Author.Rules.{rules}
use Rattle.apart.proofs.Returns.{walk_cases}
use Rattle.apart.proofs.walk_apart.Goals as goal

pub invariant_of-tables : goal.invariant_of-tables
invariant_of-tables c = search (rules, walk_cases)
