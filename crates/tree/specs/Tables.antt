-- The mode of tables that the code hands on as one value.
use Rattle.format.specs.Tables.{Mode}
use Rattle.tree.specs.Mode.{mode_of}
use Rattle.tree.specs.declared.tables.Tables.{Tables}

abbrev pub mode_in : Tables → Mode
mode_in t = mode_of t.limits t.parts.now t.pair.now t.symbols.now
