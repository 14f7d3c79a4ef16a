use Rattle.std.proofs.Common.{◌≡◌, drop}
use Rattle.kt_graph.specs.inner.nodes.Buckets.{edges_to, rows_held, with_edges}
use Rattle.kt_graph.proofs.nodes.buckets.add_to.Given as goal

abbrev pub invariant-loop-from : goal.invariant-loop-from
invariant-loop-from l =
    with_edges (rows_held l.rows.items) (edges_to l.to (drop l.from-index l.froms)) ≡ with_edges (rows_held l.fn.rows.items) (edges_to l.to l.froms)
