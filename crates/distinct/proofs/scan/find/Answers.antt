use Rattle.distinct.proofs.ScanReturns.{find_cases}
use borrow.Author.Rules.{rules}
use Rattle.distinct.proofs.scan.find.Goals as goal

pub loop-e-init : goal.loop-e-init
loop-e-init c = search (rules, find_cases)

pub get_at-requires : goal.get_at-requires
get_at-requires c = search (rules, find_cases)

pub alike-requires : goal.alike-requires
alike-requires c = search (rules, find_cases)

pub returns-then-alike : goal.returns-then-alike
returns-then-alike c = search (rules, find_cases)

pub loop-e-preserved : goal.loop-e-preserved
loop-e-preserved c = search (rules, find_cases)

pub returns : goal.returns
returns c = search (rules, find_cases)
