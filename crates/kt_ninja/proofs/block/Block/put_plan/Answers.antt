use Rattle.std.proofs.Common.{rules}
use Rattle.kt_ninja.proofs.Common.{codes, plan_text}
use Rattle.kt_ninja.proofs.Putting.{puts_none, puts_then}
use Rattle.kt_ninja.proofs.block.Block.put_plan.Goals as goal

pub returns : goal.returns
unfolding plan_text
returns g c = search (rules, puts_then, codes, puts_none)
