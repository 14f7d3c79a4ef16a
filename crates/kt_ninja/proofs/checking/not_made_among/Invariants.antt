use Rattle.std.proofs.Common.{◌≤◌, not}
use Rattle.kt_list.specs.Names.{is_among}
use Rattle.kt_ninja.specs.Plan.{outputs}
use Rattle.kt_ninja.proofs.Places.{Looks}
use Rattle.kt_ninja.proofs.checking.not_made_among.Given as goal

abbrev pub invariant-loop-place : goal.invariant-loop-place
invariant-loop-place g l = record {
  within : l.place ≤ l.place-end;
  looks : Looks (λ name. not (is_among (outputs (g.V.PlanView.plan l.view).statements) name)) (g.V.Names.NamesView.names l.names) l.place;
}
