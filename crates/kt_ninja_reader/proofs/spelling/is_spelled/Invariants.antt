use Rattle.std.proofs.Common.{◌≡◌, length}
use Rattle.kt_ninja_reader.specs.inner.Spelled.{is_spelled}
use Rattle.kt_ninja_reader.proofs.spelling.is_spelled.Given as goal

abbrev pub invariant-loop-after : goal.invariant-loop-after
invariant-loop-after l = is_spelled l.rest ≡ is_spelled l.text

abbrev pub decreases-loop-after : goal.decreases-loop-after
decreases-loop-after l = length l.rest
