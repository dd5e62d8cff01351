use borrow.Author.Rules.{rules}
use Rattle.distinct.proofs.ClassReturns.{by_classes_cases}
use Rattle.distinct.proofs.classes.by_classes.Goals as goal

pub loop-classes-init : goal.loop-classes-init
loop-classes-init c = search (rules, by_classes_cases)

pub by_class-requires : goal.by_class-requires
by_class-requires c = search (rules, by_classes_cases)

pub returns-in-Some : goal.returns-in-Some
returns-in-Some c = search (rules, by_classes_cases)

pub overflow_mul-classes : goal.overflow_mul-classes
overflow_mul-classes c = search (rules, by_classes_cases)

pub loop-classes-preserved : goal.loop-classes-preserved
loop-classes-preserved c = search (rules, by_classes_cases)

pub returns : goal.returns
returns c = search (rules, by_classes_cases)
