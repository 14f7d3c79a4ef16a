use Rattle.std.proofs.Common.{length, arith}
use Rattle.kt_graph.proofs.Common.{drop_all}
use Rattle.kt_graph.proofs.lemmas.faults.ArrivalLemmas.{arrived}
use Rattle.kt_graph.proofs.lemmas.faults.CircleLemmas.{length-rows}
use Rattle.kt_graph.proofs.faults.cycles.arrivals.Goals as goal

pub loop-vertex-preserved : goal.loop-vertex-preserved
loop-vertex-preserved c = grind (arith, length-rows, length, arrived)

pub returns : goal.returns
returns c = grind (arith, length-rows, length, drop_all)
