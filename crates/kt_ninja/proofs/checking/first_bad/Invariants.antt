use Rattle.std.proofs.Common.{◌≤◌, not}
use Rattle.kt_ninja.specs.Writable.{is_name}
use Rattle.kt_ninja.proofs.Places.{Looks}
use Rattle.kt_ninja.proofs.checking.first_bad.Given as goal

abbrev pub invariant-loop-place : goal.invariant-loop-place
invariant-loop-place g l = record {
  within : l.place ≤ l.place-end;
  looks : Looks (λ n. not (is_name n)) (g.N.NamesView.names l.names) l.place;
}
