use Rattle.std.proofs.Common.{arith}
use Rattle.kt_graph.proofs.Common.{on_ok_weaker}
use Rattle.kt_graph.proofs.lemmas.faults.EdgeLemmas.{edges_more}
use Rattle.kt_graph.proofs.faults.edges.add_new.Goals as goal

pub returns : goal.returns
returns c = grind (arith, on_ok_weaker, edges_more)
