use borrow.Author.Rules.{rules}
use Rattle.decode.proofs.JudgeReturns.{judge_cases}
use Rattle.decode.proofs.judge.tree_in.Goals as goal

pub returns-in_err-here : goal.returns-in_err-here
returns-in_err-here c = search (rules, judge_cases)

pub returns-in_err-tree_row : goal.returns-in_err-tree_row
returns-in_err-tree_row c = search (rules, judge_cases)

pub returns : goal.returns
returns c = search (rules, judge_cases)
