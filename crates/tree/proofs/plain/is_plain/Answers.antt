use Rattle.format.specs.WordList.{word_of}
use Rattle.tree.proofs.ListedLaws.{plain_fields}
use Rattle.tree.proofs.plain.is_plain.Goals as goal
use Rattle.tree.proofs.plain.is_plain.Goals.{then-is_low_close, else-is_low_close, then-is_low, else-is_low}

pub returns-then-range_fits : goal.returns-then-range_fits
returns-then-range_fits c q =
    elim c.if-is_low_close.branch [
      | then-is_low_close w ↦ elim c.if-is_low.branch [
        | then-is_low v ↦ plain_fields (word_of c.args.l.now c.args.n) (c.is_low.ensures v.if-is_low.true) (v.is_low_close.ensures (cc)) (cc) (cc)
        | else-is_low v ↦ cc
      ]
      | else-is_low_close w ↦ cc
    ]
