use Rattle.std.proofs.Common.{rules, refl}
use Rattle.kt_ninja.proofs.Putting.{printed}
use Rattle.kt_ninja.proofs.text.print.Goals as goal

pub returns : goal.returns
returns g c = printed _ c.put_plan.new.self c.flush.new.self _ _ c.put_plan.ensures c.flush.ensures.passes c.flush.ensures.empty c.new.ensures refl refl (search rules)
