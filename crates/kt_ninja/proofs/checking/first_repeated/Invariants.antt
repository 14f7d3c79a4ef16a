use Rattle.std.proofs.Common.{◌≡◌, ◌≤◌, [], take, drop}
use Rattle.kt_ninja.specs.Plan.{outputs}
use Rattle.kt_ninja.specs.views.Writable.{repeated_after}
use Rattle.kt_ninja.proofs.checking.first_repeated.Given as goal

abbrev pub invariant-loop-statement : goal.invariant-loop-statement
invariant-loop-statement g l = record {
  within : l.statement ≤ l.statement-end;
  repeats : repeated_after (outputs (take l.statement (g.V.PlanView.plan l.view).statements)) (outputs (drop l.statement (g.V.PlanView.plan l.view).statements))
      ≡ repeated_after [] (outputs (g.V.PlanView.plan l.view).statements);
}
