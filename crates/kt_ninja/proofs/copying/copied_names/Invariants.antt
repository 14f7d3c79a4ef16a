use Rattle.std.proofs.Common.{◌≡◌, ◌≤◌, take}
use Rattle.kt_ninja.proofs.copying.copied_names.Given as goal

abbrev pub invariant-loop-place : goal.invariant-loop-place
invariant-loop-place g l = record {
  within : l.place ≤ l.count;
  copied : l.copies.items ≡ take l.place (g.N.NamesView.names l.names);
}
