use Rattle.std.proofs.Common.{◌≡◌, None, length}
use Rattle.kt_eval.specs.State.{innermost_value}
use Rattle.kt_eval.proofs.expanding.frames.innermost.Given as goal

abbrev pub invariant-loop-frame : goal.invariant-loop-frame
invariant-loop-frame l = innermost_value l.name None l.left ≡ innermost_value l.name None l.frames

abbrev pub decreases-loop-frame : goal.decreases-loop-frame
decreases-loop-frame l = length l.left
