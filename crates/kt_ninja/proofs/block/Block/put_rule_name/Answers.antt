use Rattle.std.proofs.Common.{codes}
use Rattle.kt_ninja.proofs.Putting.{puts_none, puts_then}
use Rattle.kt_ninja.proofs.block.Block.put_rule_name.Goals as goal

pub returns-in-Some : goal.returns-in-Some
returns-in-Some g c = λ number is.
    rw c.in-Some.is (puts_then (codes "r") _ c.put.ensures (puts_then _ _ (rw is at c.put-in-Some.ensures) (puts_none _)))
