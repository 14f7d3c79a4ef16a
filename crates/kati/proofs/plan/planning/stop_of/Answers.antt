use Rattle.std.proofs.Common.{ap, sym, ◌∙◌}
use Rattle.kt_rules.specs.declared.fault_kind.FaultKind.TheVariants.{CommandNotWritable, NameNotWritable}
use Rattle.kati.proofs.Common.{told_obstacle, text_fault}
use Rattle.kati.specs.Steps.{fault_nowhere}
use Rattle.kati.specs.inner.plan.Shown.{plan_view}
use Rattle.kati.proofs.plan.planning.stop_of.Goals as goal

pub returns-in-BadName : goal.returns-in-BadName
returns-in-BadName c = (
  fault_nowhere NameNotWritable c.in-BadName.name.now,
  ap (λ t. text_fault (plan_view c.args.plan.now).statements (told_obstacle t)) c.in-BadName.is,
  c.stop_on.ensures,
)

pub returns-in-BadCommand : goal.returns-in-BadCommand
returns-in-BadCommand c = (
  fault_nowhere CommandNotWritable c.least_output-output.result.now,
  ap (λ t. text_fault (plan_view c.args.plan.now).statements (told_obstacle t)) c.in-BadCommand.is
      ∙ ap (λ name. Rattle.std.specs.Prelude.Some (fault_nowhere CommandNotWritable name)) (sym c.least_output-output.ensures),
  c.stop_on-in-BadCommand.ensures,
)
