use Rattle.std.proofs.Common.{codes}
use Rattle.kt_ninja.proofs.Putting.{puts_none, puts_then}
use Rattle.kt_ninja.proofs.block.Block.put_rule.Goals as goal

pub returns-in-Some : goal.returns-in-Some
returns-in-Some g c = λ number is.
    rw c.in-Some.is (puts_then (codes "rule r") _ c.put.ensures
    (puts_then _ _ (rw is at c.put-in-Some.ensures)
    (puts_then (codes "\n command = ") _ c.put-in-Some-2.ensures
    (puts_then _ _ c.put_command.ensures
    (puts_then (codes "\n") _ c.put-in-Some-3.ensures (puts_none _))))))
