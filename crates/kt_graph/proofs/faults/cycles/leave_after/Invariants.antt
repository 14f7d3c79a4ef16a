use Rattle.std.proofs.Common.{◌+◌, ℕ, List, length}
use Rattle.kt_graph.specs.inner.faults.Arrivals.{AreCounted}
use Rattle.kt_graph.proofs.lemmas.faults.ArrivalLemmas.{count_left}
use Rattle.kt_graph.proofs.faults.cycles.leave_after.Given as goal

abbrev pub invariant-loop-vertex : goal.invariant-loop-vertex
invariant-loop-vertex l = (rest : List ℕ) → AreCounted l.edges l.fn.counts.items l.fn.work.items rest → AreCounted l.edges l.counts.items l.work.items rest

abbrev pub decreases-loop-vertex : goal.decreases-loop-vertex
decreases-loop-vertex l = count_left l.counts.items + length l.work.items
