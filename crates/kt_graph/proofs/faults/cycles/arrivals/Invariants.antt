use Rattle.std.proofs.Common.{◌≡◌, drop, flat_map, fold, replicate}
use Rattle.kt_graph.proofs.Common.{with_arrival, vertex_count, edge_rows}
use Rattle.kt_graph.proofs.faults.cycles.arrivals.Given as goal

abbrev pub invariant-loop-vertex : goal.invariant-loop-vertex
invariant-loop-vertex l =
    fold with_arrival l.counts.items (flat_map (λ row. row) (drop l.vertex (edge_rows l.edges)))
    ≡ fold with_arrival (replicate (vertex_count l.edges) 1) (flat_map (λ row. row) (edge_rows l.edges))
