use borrow.Author.Rules.{rules}
use Rattle.distinct.proofs.SelectReturns.{choose_cases}
use Rattle.distinct.proofs.select.select_each.Goals as goal

pub loop-v-init : goal.loop-v-init
loop-v-init c = search (rules, choose_cases)

pub choose-m-requires : goal.choose-m-requires
choose-m-requires c = search (rules, choose_cases)

pub loop-v-preserved : goal.loop-v-preserved
loop-v-preserved c = search (rules, choose_cases)

pub returns : goal.returns
returns c = search (rules, choose_cases)
