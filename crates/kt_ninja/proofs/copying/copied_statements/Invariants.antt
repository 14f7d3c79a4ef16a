use Rattle.std.proofs.Common.{◌≡◌, ◌≤◌, take}
use Rattle.kt_ninja.proofs.copying.copied_statements.Given as goal

abbrev pub invariant-loop-place : goal.invariant-loop-place
invariant-loop-place g l = record {
  within : l.place ≤ l.count;
  copied : l.statements.items ≡ take l.place (g.V.PlanView.plan l.view).statements;
}
