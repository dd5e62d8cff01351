use Rattle.places.proofs.IndexLaw.{held_empty}
use Rattle.places.proofs.index.load.Goals as goal

pub loop-i-init : goal.loop-i-init
loop-i-init c = held_empty _ _ _ (c.fill.ensures.after (λ y e. e))
