use Rattle.std.proofs.Common.{◌+◌, ◌-◌, ◌<◌, arith}
use Rattle.kt_graph.proofs.Common.{range_with_len, vertex_count}
use Rattle.kt_graph.proofs.lemmas.faults.ArrivalLemmas.{next_turn, turn_taken}
use Rattle.kt_graph.proofs.faults.cycles.arrivals_left.Goals as goal

pub loop-vertex-preserved : goal.loop-vertex-preserved
loop-vertex-preserved c =
    let within : c.loop-vertex.vertex < vertex_count c.args.edges.now = omega (arith, c.count-vertex-end.ensures) in (
      c.in_ok-leave_after.ensures.done,
      c.in_ok-leave_after.ensures.counted (range_with_len (c.loop-vertex.vertex + 1) (vertex_count c.args.edges.now - (c.loop-vertex.vertex + 1)))
          (turn_taken c.args.edges.now c.loop-vertex.counts.items c.leave.new.counts.items c.leave.new.work.items c.loop-vertex.vertex
          (range_with_len (c.loop-vertex.vertex + 1) (vertex_count c.args.edges.now - (c.loop-vertex.vertex + 1)))
          (next_turn c.args.edges.now c.loop-vertex.counts.items c.loop-vertex.vertex within c.loop-vertex.invariant.1)
          (rw c.loop-vertex.invariant.0 at c.in_ok-leave.ensures)),
    )

pub returns : goal.returns
returns c = c.loop-vertex.invariant.1.circular
