use Rattle.std.proofs.Common.{◌≡◌, ◌<◌, ℕ, length, true}
use Rattle.kt_graph.proofs.Common.{IsLeftIn, holds_in}
use Rattle.kt_graph.proofs.faults.cycles.left_in_both.Given as goal

abbrev pub invariant-loop-vertex : goal.invariant-loop-vertex
invariant-loop-vertex l =
    (length l.held.items ≡ l.vertex)
    × ((vertex : ℕ) → vertex < l.vertex → IsLeftIn l.arrivals vertex → IsLeftIn l.departures vertex → holds_in l.held.items vertex ≡ true)
