use Rattle.std.proofs.Common.{◌+◌, length}
use Rattle.kt_graph.specs.inner.faults.Edges.{Searches, count_held}
use Rattle.kt_graph.proofs.faults.cycles.LeftVertices.leads_back.Given as goal

abbrev pub invariant-loop-other : goal.invariant-loop-other
invariant-loop-other l = Searches l.edges l.vertex l.self.held.items l.unvisited.items l.work.items

abbrev pub decreases-loop-other : goal.decreases-loop-other
decreases-loop-other l = count_held l.unvisited.items + length l.work.items
