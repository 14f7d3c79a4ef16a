use Rattle.std.proofs.Common.{arith, length, sym}
use Rattle.kt_graph.proofs.Common.{IfOk-weaker}
use Rattle.kt_graph.proofs.lemmas.nodes.ReachedNames.{place_first, place_second}
use Rattle.kt_graph.proofs.nodes.numbering.note.Goals as goal

pub returns-in-Some-clause-noted : goal.returns-in-Some-clause-noted
returns-in-Some-clause-noted c = place_first c.args.tables.now c.args.others.now c.args.name.now c.in-Some.number (sym c.in-Some.ensures)

pub returns-in-None-clause-noted : goal.returns-in-None-clause-noted
returns-in-None-clause-noted c = grind (arith, IfOk-weaker, length, place_second)
