use Rattle.std.proofs.Common.{length, take, arith}
use Rattle.kt_syntax.proofs.Common.{take_rest}
use Rattle.kt_syntax.proofs.lemmas.Masking.{length-between}
use Rattle.kt_syntax.proofs.lemmas.OwnSymbols.{after_own}
use Rattle.kt_syntax.proofs.mask.Mask.between.Goals as goal

pub loop-place-init : goal.loop-place-init
loop-place-init c = grind (arith, take_rest, after_own)

pub returns : goal.returns
returns c = grind (arith, take, length, length-between)
