use Prim.Native.Nat.{◌<◌}
use native.Mathlib.Omega.{arith}
use Rattle.format.specs.MakeTables.{key_count}
use borrow.Author.Rules.{rules}
use Rattle.distinct.proofs.ScanReturns.{scan_cases, scanned_fits}
use Rattle.distinct.proofs.scan.scan.Goals as goal

pub loop-v-init : goal.loop-v-init
loop-v-init c = search (rules, scan_cases)

pub scan_one-p-requires : goal.scan_one-p-requires
scan_one-p-requires c =
    let h : key_count c.args.keys.now.list.now c.args.keys.now.symbols < 4294967295 = c.args.keys.now.few in
    record {
      v_bound = (omega arith, scanned_fits _ _ _ _ _ _ _ _ c.loop-v.invariant c.count-v-end.result (omega arith) (omega arith));
      gathered = search (rules, scan_cases);
      room = search (rules, scan_cases);
    }

pub loop-v-preserved : goal.loop-v-preserved
loop-v-preserved c = search (rules, scan_cases)

pub returns : goal.returns
returns c = search (rules, scan_cases)
