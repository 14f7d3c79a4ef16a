use Rattle.std.proofs.Common.{◌≤◌}
use Rattle.memchr.specs.Find.{Nowhere, Passes, is_byte}
use Rattle.kt_graph.proofs.faults.spelling.slash_by_byte.Given as goal

abbrev pub invariant-loop-at : goal.invariant-loop-at
invariant-loop-at l = record {
  within : l.at ≤ l.at-end;
  none : Nowhere (Passes (is_byte 47) l.text) 0 l.at;
}
