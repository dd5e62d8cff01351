use Rattle.encode.proofs.ListedReturns.{tail_char, tail_symbol}
use Rattle.encode.proofs.listed.tail_size.Goals as goal

pub returns-then-sort-eq-PUNCT : goal.returns-then-sort-eq-PUNCT
returns-then-sort-eq-PUNCT c = tail_char _ _ _ _ c.char_size-one.ensures.0 c.char_size-one.ensures.1 c.if-sort-eq-PUNCT.true

pub returns-else-sort-eq-PUNCT : goal.returns-else-sort-eq-PUNCT
returns-else-sort-eq-PUNCT c = tail_symbol _ _ _ _ c.small_symbol-other.ensures.0 c.small_symbol-other.ensures.1 c.if-sort-eq-PUNCT.false
