use mathlib.Core.Path.{◌≡◌}
use lib.ListN.{take}
use native.Mathlib.Omega.{arith}
use Rattle.std.proofs.lemmas.Grind.{common_steps}
use Rattle.distinct.proofs.ClassReturns.{copied}
use Rattle.distinct.proofs.classes.append.Goals as goal

pub returns-clause-numbers : goal.returns-clause-numbers
returns-clause-numbers c =
    let m : c.copy_from_slice.new.self ≡ take c.args.q c.args.firsts.now = grind (arith, common_steps) in
    copied _ _ _ _ _ _ c.requires.2 c.requires.0 m (omega arith)

pub returns-clause-counts : goal.returns-clause-counts
returns-clause-counts c =
    let m : c.copy_from_slice-2.new.self ≡ take c.args.q c.args.counts.now = grind (arith, common_steps) in
    copied _ _ _ _ _ _ c.requires.3 c.requires.1 m (omega arith)
