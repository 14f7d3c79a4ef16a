use Rattle.std.proofs.Common.{rules}
use Rattle.kt_ninja.specs.inner.Equality.{plan_decided}
use Rattle.kt_ninja.proofs.plan.PlanPartialEq.eq.Goals as goal

pub returns-then-eq-clause-same : goal.returns-then-eq-clause-same
returns-then-eq-clause-same c = plan_decided c.args.self.now c.args.other.now _ (search rules)

pub returns-else-eq-clause-same : goal.returns-else-eq-clause-same
returns-else-eq-clause-same c = plan_decided c.args.self.now c.args.other.now _ (search rules)
