use Rattle.std.proofs.Common.{◌≡◌}
use Rattle.kt_graph.specs.inner.nodes.Buckets.{bare_rows, rows_held}
use Rattle.kt_graph.proofs.nodes.buckets.bare.Given as goal

abbrev pub invariant-loop : goal.invariant-loop
invariant-loop l = rows_held l.rows.items ≡ bare_rows l.counter
