use Rattle.std.proofs.Common.{rules}
use Rattle.kt_ninja.specs.inner.Equality.{statement_decided}
use Rattle.kt_ninja.proofs.plan.StatementPartialEq.eq.Goals as goal

pub returns-then-eq-4-clause-same : goal.returns-then-eq-4-clause-same
returns-then-eq-4-clause-same c = statement_decided c.args.self.now c.args.other.now _ (search rules)

pub returns-else-eq-4-clause-same : goal.returns-else-eq-4-clause-same
returns-else-eq-4-clause-same c = statement_decided c.args.self.now c.args.other.now _ (search rules)
