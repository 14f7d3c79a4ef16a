use Rattle.std.proofs.Common.{◌≤◌, take, nat_eq}
use Rattle.std.specs.Cmp.Lexicographic.{pointwise}
use Rattle.kt_ninja.proofs.Places.{Asks}
use Rattle.kt_ninja.proofs.checking.holds.Given as goal

abbrev pub invariant-loop-place : goal.invariant-loop-place
invariant-loop-place g l = record {
  within : l.place ≤ l.count;
  asks : Asks (pointwise nat_eq l.name) (take l.count (g.N.NamesView.names l.names)) l.place;
}
