use Rattle.std.proofs.Common.{◌≡◌, ◌≤◌}
use Rattle.format.specs.WordList.{list_count}
use Rattle.format.specs.Builder.{open_fit}
use Rattle.builder.specs.State.{numbers}
use Rattle.builder.proofs.state.Builder.open_fit.Given as goal

abbrev pub invariant-loop-d : goal.invariant-loop-d
invariant-loop-d l = record {
  in_list : l.top ≤ list_count l.list;
  same : open_fit l.list l.self.count (numbers l.self.opened l.self.depth) ≡ open_fit l.list l.top (numbers l.self.opened l.d);
}
