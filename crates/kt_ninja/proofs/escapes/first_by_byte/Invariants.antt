use Rattle.std.proofs.Common.{◌≤◌}
use Rattle.kt_ninja.specs.Text.{is_special_in_name}
use Rattle.kt_ninja.proofs.Common.{Nowhere, Passes}
use Rattle.kt_ninja.proofs.escapes.first_by_byte.Given as goal

abbrev pub invariant-loop-at : goal.invariant-loop-at
invariant-loop-at l = record {
  within : l.at ≤ l.at-end;
  none : Nowhere (Passes is_special_in_name l.text) 0 l.at;
}
