use Rattle.std.proofs.Common.{◌-◌, ◌+◌, length}
use Rattle.kt_graph.specs.inner.nodes.Reached.{HasSame}
use Rattle.kt_graph.proofs.nodes.reached.make_room.Given as goal

abbrev pub invariant-loop-marks : goal.invariant-loop-marks
invariant-loop-marks l = HasSame l.fn.marks.items l.marks.items

abbrev pub decreases-loop-marks : goal.decreases-loop-marks
decreases-loop-marks l = l.number + 1 - length l.marks.items
