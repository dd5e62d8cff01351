use borrow.Author.Rules.{rules}
use Rattle.pack.proofs.SpanReturns.{span_at_cases}
use Rattle.pack.proofs.span.span_at.Goals as goal

pub returns-then-left-lt4 : goal.returns-then-left-lt4
returns-then-left-lt4 c = search (rules, span_at_cases)

pub returns-then-w-eq0 : goal.returns-then-w-eq0
returns-then-w-eq0 c = search (rules, span_at_cases)

pub returns-then-left-lt8 : goal.returns-then-left-lt8
returns-then-left-lt8 c = search (rules, span_at_cases)

pub returns-then-v-eq0 : goal.returns-then-v-eq0
returns-then-v-eq0 c = search (rules, span_at_cases)

pub returns-then-left-lt12 : goal.returns-then-left-lt12
returns-then-left-lt12 c = search (rules, span_at_cases)

pub returns : goal.returns
returns c = search (rules, span_at_cases)
