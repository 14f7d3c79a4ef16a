use Rattle.std.proofs.Common.{◌≡◌, ◌≤◌, ◌-◌, [], drop, length}
use Rattle.kt_ninja_reader.specs.NinjaRead.{cut_lines, nothing_read, read_parts}
use Rattle.kt_ninja_reader.proofs.ninja_read.read_parts.Given as goal

abbrev pub invariant-loop-part : goal.invariant-loop-part
invariant-loop-part l = record {
  begun : (cut_lines (drop l.from l.parts)).before ≡ [];
  same : read_parts l.state (cut_lines (drop l.from l.parts)).parts ≡ read_parts nothing_read (cut_lines l.parts).parts;
  bound : l.from ≤ length l.parts;
}

abbrev pub decreases-loop-part : goal.decreases-loop-part
decreases-loop-part l = length l.parts - l.from
