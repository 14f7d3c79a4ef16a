use Rattle.std.proofs.Common.{arith}
use Rattle.kt_ninja.proofs.Common.{nat_eq, pointwise}
use Rattle.kt_ninja.proofs.Places.{passes_later}
use Rattle.kt_ninja.proofs.checking.holds.Goals as goal

pub loop-place-preserved : goal.loop-place-preserved
loop-place-preserved g c = grind (arith, passes_later, pointwise, nat_eq)
