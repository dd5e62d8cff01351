-- The mode of the two tables that the code hands on as one value.
use Rattle.format.specs.Tables.{Mode}
use Rattle.places.specs.Places.{below_root}
use Rattle.places.specs.declared.tables.Tables.{Tables}

abbrev pub mode_below : Tables → Mode
mode_below t = below_root t.limit t.parts.now t.symbols.now
