-- A slot that holds no pair, and a pair over no sides.
use Rattle.std.specs.Prelude.{None}
use Rattle.books.specs.declared.entries.Entry.{Entry}
use Rattle.books.specs.Plain.{entry}
use Rattle.tree.specs.declared.nodes.Node.{Node}

abbrev pub bare : {K : Type 0} → Entry K → Node K
bare e = record { entry = e; left = None; right = None; height = 0 }

abbrev pub blank : {K : Type 0} → K → Node K
blank k = bare (entry k 0)
