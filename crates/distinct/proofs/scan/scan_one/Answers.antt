use borrow.Author.Rules.{rules}
use Rattle.distinct.proofs.ScanReturns.{scan_one_cases}
use Rattle.distinct.proofs.scan.scan_one.Goals as goal

pub is_live-requires : goal.is_live-requires
is_live-requires c = search (rules, scan_one_cases)

pub scan_key-requires : goal.scan_key-requires
scan_key-requires c = search (rules, scan_one_cases)

pub returns-then-is_live : goal.returns-then-is_live
returns-then-is_live c = search (rules, scan_one_cases)

pub returns : goal.returns
returns c = search (rules, scan_one_cases)
