use Rattle.std.proofs.Common.{◌≡◌, ◌-◌, []}
use Rattle.kt_graph.proofs.Common.{range_with_len, AreCounted, vertex_count}
use Rattle.kt_graph.proofs.faults.cycles.arrivals_left.Given as goal

abbrev pub invariant-loop-vertex : goal.invariant-loop-vertex
invariant-loop-vertex l = (l.work.items ≡ []) × AreCounted l.edges l.counts.items [] (range_with_len l.vertex (vertex_count l.edges - l.vertex))
