use Rattle.kt_graph.proofs.Common.{take, Visits}
use Rattle.kt_graph.proofs.faults.cycles.visit.Given as goal

abbrev pub invariant-loop-vertex : goal.invariant-loop-vertex
invariant-loop-vertex l = Visits (take l.vertex-index l.vertices) l.fn.unvisited.items l.unvisited.items l.fn.work.items l.work.items
