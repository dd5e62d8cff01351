use native.Mathlib.Omega.{arith}
use borrow.Author.Rules.{rules}
use Rattle.distinct.proofs.ClassReturns.{class_cases, class_words, class_tallies, class_joined}
use Rattle.distinct.proofs.classes.join_class.Goals as goal

pub gather-requires : goal.gather-requires
gather-requires c = search (rules, class_cases)

pub append-requires : goal.append-requires
append-requires c = (class_words _ _ _ _ _ _ _ _ _ c.in_ok-q.ensures.1 _ _ _ c.requires.classes_bound.0 c.requires.room.1 c.requires.room.0, class_tallies _ _ _ _ _ _ _ _ _ c.in_ok-q.ensures.1 _ _ _ c.requires.classes_bound.0 c.requires.room.1 c.requires.room.0, omega (arith, c.in_ok-q.ensures.0), omega (arith, c.in_ok-q.ensures.0))

pub returns : goal.returns
returns c = class_joined _ _ _ _ _ _ _ _ _ c.in_ok-q.ensures.1 _ _ _ c.requires.classes_bound.0 c.requires.room.1 _ _ c.append.ensures.numbers c.append.ensures.counts
