use Rattle.std.proofs.Common.{◌≤◌, take}
use Rattle.kt_list.specs.Names.{is_among}
use Rattle.kt_ninja.proofs.Places.{Asks}
use Rattle.kt_ninja.proofs.checking.is_made_by.Given as goal

abbrev pub invariant-loop-statement : goal.invariant-loop-statement
invariant-loop-statement g l = record {
  within : l.statement ≤ l.count;
  asks : Asks (λ s. is_among s.outs l.name) (take l.count (g.V.PlanView.plan l.view).statements) l.statement;
}
