use mathlib.Core.Path.{refl}
use borrow.Author.Rules.{rules}
use Rattle.distinct.proofs.ScanReturns.{scan_one_cases, scan_count, scan_found, scan_new}
use Rattle.distinct.proofs.scan.scan_key.Goals as goal

pub find-requires : goal.find-requires
find-requires c = search (rules, scan_one_cases)

pub raise-requires : goal.raise-requires
raise-requires c = scan_count _ _ _ _ _ _ c.requires.gathered c.requires.v_bound.0 c.requires.room c.requires.v_value _ c.in-Some.ensures.0 c.args.keys.now.few

pub returns-in-Some : goal.returns-in-Some
returns-in-Some c = scan_found _ _ _ _ _ _ c.requires.gathered c.requires.v_bound.0 c.requires.room c.requires.v_value _ _ c.in-Some.ensures.0 c.in-Some.ensures.1 c.raise.ensures

pub returns-in-None : goal.returns-in-None
returns-in-None c = scan_new _ _ _ _ _ _ c.requires.gathered c.requires.v_bound.0 c.requires.room c.requires.v_value c.in-None.ensures _ _ _ refl c.set_at.ensures c.set_at-in-None.ensures
