use Rattle.std.proofs.Common.{◌≡◌, ◌≤◌, drop}
use Rattle.kt_ninja.specs.Writable.{obstacle_of_statements}
use Rattle.kt_ninja.proofs.checking.first_bad_text.Given as goal

abbrev pub invariant-loop-statement : goal.invariant-loop-statement
invariant-loop-statement g l = record {
  within : l.statement ≤ l.statement-end;
  obstacles : obstacle_of_statements l.statement (drop l.statement (g.V.PlanView.plan l.view).statements)
      ≡ obstacle_of_statements 0 (g.V.PlanView.plan l.view).statements;
}
