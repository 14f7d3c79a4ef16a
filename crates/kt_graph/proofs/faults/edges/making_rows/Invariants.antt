use Rattle.kt_graph.proofs.Common.{take, HaveEdges, makings_edges, rows_held}
use Rattle.kt_graph.proofs.faults.edges.making_rows.Given as goal

abbrev pub invariant-loop-number : goal.invariant-loop-number
invariant-loop-number l = HaveEdges l.count (makings_edges (take l.number l.nodes)) (rows_held l.rows.items)
