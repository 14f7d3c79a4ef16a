use Rattle.std.proofs.Common.{◌≡◌, ◌+◌, false, drop}
use Rattle.kt_rules.specs.Names.{cut_place}
use Rattle.kt_rules.proofs.line.cutting.cut_place.Given as goal

abbrev pub invariant-loop-byte : goal.invariant-loop-byte
invariant-loop-byte l = record {
  at : l.place ≡ l.byte-index;
  value : l.place + cut_place l.cut l.after_backslash (drop l.byte-index l.text) ≡ cut_place l.cut false l.text;
}
