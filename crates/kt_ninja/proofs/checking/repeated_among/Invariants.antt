use Rattle.std.proofs.Common.{◌≤◌, take}
use Rattle.kt_ninja.specs.Plan.{outputs}
use Rattle.kt_ninja.proofs.Troubles.{Repeats}
use Rattle.kt_ninja.proofs.checking.repeated_among.Given as goal

abbrev pub invariant-loop-place : goal.invariant-loop-place
invariant-loop-place g l = record {
  within : l.place ≤ l.place-end;
  repeats : Repeats (outputs (take l.statement (g.V.PlanView.plan l.view).statements)) (g.V.Names.NamesView.names l.outs) l.place;
}
