use Prim.Native.Nat.{◌<◌}
use native.Mathlib.Omega.{arith}
use Rattle.format.specs.MakeTables.{key_count}
use borrow.Author.Rules.{rules}
use Rattle.distinct.proofs.ClassReturns.{by_class_cases, class_fails, class_held, class_words_on, class_tallies_on, class_fits}
use Rattle.distinct.proofs.classes.by_class.Goals as goal

pub loop-k-init : goal.loop-k-init
loop-k-init c = search (rules, by_class_cases)

pub one_class-requires : goal.one_class-requires
one_class-requires c = search (rules, by_class_cases)

pub overflow_add-p : goal.overflow_add-p
overflow_add-p c =
    let g : key_count c.args.keys.now.list.now c.args.keys.now.symbols < 4294967295 = c.args.keys.now.few in
    let h = class_fits _ _ _ _ _ _ _ _ _ c.loop-k.invariant.1 c.loop-k.invariant.2 c.loop-k.invariant.3 _ _ _ c.in_ok-p.ensures in omega arith

pub loop-k-preserved : goal.loop-k-preserved
loop-k-preserved c = (
  class_fits _ _ _ _ _ _ _ _ _ c.loop-k.invariant.1 c.loop-k.invariant.2 c.loop-k.invariant.3 _ _ _ c.in_ok-p.ensures,
  class_held _ _ _ _ _ _ _ _ _ c.loop-k.invariant.1 c.loop-k.invariant.2 c.loop-k.invariant.3 _ _ _ c.in_ok-p.ensures,
  class_words_on _ _ _ _ _ _ _ _ _ c.loop-k.invariant.1 c.loop-k.invariant.2 c.loop-k.invariant.3 _ _ _ c.in_ok-p.ensures,
  class_tallies_on _ _ _ _ _ _ _ _ _ c.loop-k.invariant.1 c.loop-k.invariant.2 c.loop-k.invariant.3 _ _ _ c.in_ok-p.ensures,
)

pub returns-in_err-p : goal.returns-in_err-p
returns-in_err-p c = rw c.from_residual.ensures (class_fails _ _ _ _ _ _ _ _ _ c.loop-k.invariant.1 c.loop-k.invariant.2 c.loop-k.invariant.3 _ _ c.in_err-p.ensures)

pub returns-then-p-limit_of : goal.returns-then-p-limit_of
returns-then-p-limit_of c = search (rules, by_class_cases)

pub returns : goal.returns
returns c = search (rules, by_class_cases)
