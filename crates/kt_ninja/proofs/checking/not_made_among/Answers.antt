use Rattle.std.proofs.Common.{arith, not, take}
use Rattle.kt_ninja.proofs.Common.{take_all}
use Rattle.kt_ninja.proofs.Places.{found_later}
use Rattle.kt_ninja.proofs.checking.not_made_among.Goals as goal

pub loop-place-preserved : goal.loop-place-preserved
loop-place-preserved g c = grind (arith, take, take_all, found_later, not)
