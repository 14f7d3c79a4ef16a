use Rattle.std.proofs.Common.{◌≡◌, drop}
use Rattle.kt_graph.specs.inner.faults.Edges.{edge_rows, vertex_count}
use Rattle.kt_graph.specs.inner.nodes.Buckets.{bare_rows, rows_held, with_edges}
use Rattle.kt_graph.proofs.lemmas.faults.EdgeLemmas.{turned_from}
use Rattle.kt_graph.proofs.faults.edges.Edges.reversed.Given as goal

abbrev pub invariant-loop-vertex : goal.invariant-loop-vertex
invariant-loop-vertex l =
    with_edges (rows_held l.rows.items) (turned_from l.vertex (drop l.vertex (edge_rows l.self))) ≡ with_edges (bare_rows (vertex_count l.self)) (turned_from 0 (edge_rows l.self))
