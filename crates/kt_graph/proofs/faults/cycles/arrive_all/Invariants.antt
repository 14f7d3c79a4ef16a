use Rattle.std.proofs.Common.{◌≡◌, drop, fold}
use Rattle.kt_graph.specs.inner.faults.Arrivals.{with_arrival}
use Rattle.kt_graph.proofs.faults.cycles.arrive_all.Given as goal

abbrev pub invariant-loop-vertex : goal.invariant-loop-vertex
invariant-loop-vertex l = fold with_arrival l.counts.items (drop l.vertex-index l.vertices) ≡ fold with_arrival l.fn.counts.items l.vertices
