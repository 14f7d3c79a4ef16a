use Rattle.kt_ninja.proofs.Putting.{puts_then}
use Rattle.kt_ninja.proofs.block.Block.put_command.Goals as goal

pub returns : goal.returns
returns g c = puts_then _ _ c.put_lead.ensures c.put_escaped.ensures
