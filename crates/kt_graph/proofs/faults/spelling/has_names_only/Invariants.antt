use Rattle.std.proofs.Common.{◌≡◌, length}
use Rattle.kt_graph.specs.inner.faults.Files.{has_names_only}
use Rattle.kt_graph.proofs.faults.spelling.has_names_only.Given as goal

abbrev pub invariant-loop-part : goal.invariant-loop-part
invariant-loop-part l = has_names_only l.left ≡ has_names_only l.text

abbrev pub decreases-loop-part : goal.decreases-loop-part
decreases-loop-part l = length l.left
