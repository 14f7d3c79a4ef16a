use Rattle.std.proofs.Common.{◌≡◌, false, length}
use Rattle.kt_rules.specs.Names.{after_dots}
use Rattle.kt_rules.proofs.name.after_dots.Given as goal

abbrev pub invariant-loop-rest : goal.invariant-loop-rest
invariant-loop-rest l = after_dots false l.left ≡ after_dots false l.name

abbrev pub decreases-loop-rest : goal.decreases-loop-rest
decreases-loop-rest l = length l.left
