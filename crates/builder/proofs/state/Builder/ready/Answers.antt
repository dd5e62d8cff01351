use Rattle.builder.proofs.Numbers.{numbers_length}
use Rattle.builder.proofs.state.Builder.ready.Goals as goal

pub returns : goal.returns
returns c = rw (numbers_length c.args.self.now.opened c.args.self.now.depth, ← c.disagrees.ensures) c.rule.ensures
