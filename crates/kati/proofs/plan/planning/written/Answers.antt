use Rattle.kati.proofs.Common.{ap, plan_unless, written}
use Rattle.kati.specs.inner.plan.Shown.{plan_view}
use Rattle.kati.proofs.lemmas.plan.TextLemmas.{no_fault}
use Rattle.kati.proofs.plan.planning.written.Goals as goal

pub returns-then-can_be_written-clause-gives : goal.returns-then-can_be_written-clause-gives
unfolding written
returns-then-can_be_written-clause-gives c = λ said.
    ap (λ fault. plan_unless (plan_view c.args.plan) fault said) (no_fault (plan_view c.args.plan) (c.requires c.if-can_be_written.true))
