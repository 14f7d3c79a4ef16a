use Rattle.std.proofs.Common.{arith}
use Rattle.kt_graph.proofs.lemmas.nodes.ReachedNames.{place_second}
use Rattle.kt_graph.proofs.nodes.tables.Tables.number_of.Goals as goal

pub returns-in-None : goal.returns-in-None
returns-in-None c = grind (arith, place_second)
