use Rattle.std.proofs.Common.{arith}
use Rattle.kt_graph.proofs.Common.{rows_held}
use Rattle.kt_graph.proofs.lemmas.faults.EdgeLemmas.{edges_none}
use Rattle.kt_graph.proofs.faults.edges.making_rows.Goals as goal

pub loop-number-init : goal.loop-number-init
loop-number-init c = edges_none c.args.count (rows_held c.in_ok-rows.rows.items) c.in_ok-rows.ensures

pub loop-number-preserved : goal.loop-number-preserved
loop-number-preserved c =
    c.in_ok-add_new.ensures c.args.count (omega (arith, c.len-number-end.ensures.len)) c.loop-number.invariant
