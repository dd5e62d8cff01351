use borrow.Author.Rules.{rules}
use Rattle.distinct.proofs.ClassReturns.{number_cases}
use Rattle.distinct.proofs.classes.count_by_classes.Goals as goal

pub loop-classes-init : goal.loop-classes-init
loop-classes-init c = search (rules, number_cases)

pub count_by_class-requires : goal.count_by_class-requires
count_by_class-requires c = search (rules, number_cases)

pub overflow_mul-classes : goal.overflow_mul-classes
overflow_mul-classes c = search (rules, number_cases)

pub loop-classes-preserved : goal.loop-classes-preserved
loop-classes-preserved c = search (rules, number_cases)

pub returns : goal.returns
returns c = search (rules, number_cases)
