use Rattle.std.proofs.Common.{◌≡◌, drop, fold}
use Rattle.kt_graph.specs.inner.faults.Arrivals.{without_arrival}
use Rattle.kt_graph.proofs.faults.cycles.leave_all.Given as goal

abbrev pub invariant-loop-vertex : goal.invariant-loop-vertex
invariant-loop-vertex l =
    fold without_arrival (l.counts.items, l.work.items) (drop l.vertex-index l.vertices) ≡ fold without_arrival (l.fn.counts.items, l.fn.work.items) l.vertices
