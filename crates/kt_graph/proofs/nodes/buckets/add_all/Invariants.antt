use Rattle.std.proofs.Common.{◌≡◌, drop}
use Rattle.kt_graph.specs.inner.nodes.Buckets.{edges_from, rows_held, with_edges}
use Rattle.kt_graph.proofs.nodes.buckets.add_all.Given as goal

abbrev pub invariant-loop-to : goal.invariant-loop-to
invariant-loop-to l =
    with_edges (rows_held l.rows.items) (edges_from l.from (drop l.to-index l.numbers)) ≡ with_edges (rows_held l.fn.rows.items) (edges_from l.from l.numbers)
