use Rattle.std.proofs.Common.{arith, length, append-nil, append_assoc, replicate}
use Rattle.kt_syntax.specs.Steps.{ahead_of, steps_from}
use Rattle.kt_syntax.proofs.lemmas.NestingLemmas.{ahead_more, steps_more}
use Rattle.kt_syntax.proofs.nesting.steps.Goals as goal

pub loop-part-init : goal.loop-part-init
unfolding ahead_of steps_from
loop-part-init c = grind (arith, length, append-nil, replicate)

pub loop-part-preserved : goal.loop-part-preserved
loop-part-preserved c = grind (arith, length, append_assoc, steps_more, ahead_more)
