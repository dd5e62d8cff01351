use Prim.Native.Nat.{◌<◌}
use Rattle.format.specs.MakeTables.{key_count}
use Rattle.entries.proofs.LargeReturns.{quick_room, quick_made, paired_fits}
use Rattle.entries.proofs.table.large.Goals as goal

pub settle-requires : goal.settle-requires
settle-requires c =
    let h : key_count c.args.keys.now.list.now c.args.keys.now.symbols < 4294967295 = c.args.keys.now.few in
    record {
      p_bound = paired_fits _ _ _ h _ _ c.in-Some.ensures.paired;
      paired = (c.in-Some.ensures.paired, quick_room _ _ _ _ _ _ _ c.by_classes.ensures c.requires.room);
    }

pub returns-in-Some : goal.returns-in-Some
returns-in-Some c = quick_made _ _ _ _ _ _ _ c.by_classes.ensures _ _ _ c.settle.ensures

pub slow-requires : goal.slow-requires
slow-requires c = record { room = quick_room _ _ _ _ _ _ _ c.by_classes.ensures c.requires.room }

pub returns : goal.returns
returns c = quick_made _ _ _ _ _ _ _ c.by_classes.ensures _ _ _ c.slow.ensures
