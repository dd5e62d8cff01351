use borrow.Author.Rules.{rules}
use Rattle.encode.proofs.EncodeTree.{root_cases}
use Rattle.encode.proofs.encode.put_top.Goals as goal

pub put_root-requires : goal.put_root-requires
put_root-requires c = search (rules, root_cases)
