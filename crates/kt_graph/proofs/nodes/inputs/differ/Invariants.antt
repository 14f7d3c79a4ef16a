use Rattle.std.proofs.Common.{◌≡◌, length}
use Rattle.kt_graph.specs.inner.nodes.Inputs.{differ}
use Rattle.kt_graph.proofs.nodes.inputs.differ.Given as goal

abbrev pub invariant-loop-left : goal.invariant-loop-left
invariant-loop-left l = differ l.left ≡ differ l.numbers

abbrev pub decreases-loop-left : goal.decreases-loop-left
decreases-loop-left l = length l.left
