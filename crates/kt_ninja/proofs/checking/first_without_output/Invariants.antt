use Rattle.std.proofs.Common.{◌≤◌}
use Rattle.kt_ninja.specs.Writable.{is_empty}
use Rattle.kt_ninja.proofs.Places.{LooksFor}
use Rattle.kt_ninja.proofs.checking.first_without_output.Given as goal

abbrev pub invariant-loop-statement : goal.invariant-loop-statement
invariant-loop-statement g l = record {
  within : l.statement ≤ l.statement-end;
  looks : LooksFor (λ s. is_empty s.outs) (g.V.PlanView.plan l.view).statements l.statement;
}
