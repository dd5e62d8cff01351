-- The mode of tables as they are lent.
use Rattle.format.specs.Tables.{Mode}
use Rattle.tree.specs.Mode.{mode_of}
use Rattle.passes.specs.declared.runs.Runs.{Runs}

abbrev pub mode_by : Runs → Mode
mode_by t = mode_of t.limits t.parts.now t.pair.now t.symbols.now
