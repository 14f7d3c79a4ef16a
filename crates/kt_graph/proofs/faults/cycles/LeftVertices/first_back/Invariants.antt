use Rattle.kt_graph.proofs.Common.{All, take, LeadsBack}
use Rattle.kt_graph.proofs.faults.cycles.LeftVertices.first_back.Given as goal

abbrev pub invariant-loop-vertex : goal.invariant-loop-vertex
invariant-loop-vertex l = All (λ vertex. ¬ LeadsBack l.edges vertex) (take l.vertex-index l.order)
