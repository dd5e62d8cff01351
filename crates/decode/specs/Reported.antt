-- A tree that was read, with its report.
use Rattle.tree.specs.declared.loose.Loose.{Loose}
use Rattle.tree.specs.declared.raw.At.{At}
use Rattle.decode.specs.declared.loose.Reported.{Reported}

abbrev pub with_report : {A : Type 0} → At A → Loose → Reported A
with_report y l = record { tree = y.tree; next = y.next; children = y.children; loose = l }
