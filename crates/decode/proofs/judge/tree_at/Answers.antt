use borrow.Author.Rules.{rules}
use Rattle.decode.proofs.JudgeReturns.{told_cases}
use Rattle.decode.proofs.judge.tree_at.Goals as goal

pub returns-in_err-here : goal.returns-in_err-here
returns-in_err-here c = search (rules, told_cases)

pub returns : goal.returns
returns c = search (rules, told_cases)
