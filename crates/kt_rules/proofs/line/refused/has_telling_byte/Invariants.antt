use Rattle.std.proofs.Common.{◌≡◌, drop}
use Rattle.std.specs.List.{list_any}
use Rattle.kt_rules.specs.inner.Telling.{is_telling}
use Rattle.kt_rules.proofs.line.refused.has_telling_byte.Given as goal

abbrev pub invariant-loop-byte : goal.invariant-loop-byte
invariant-loop-byte l = list_any is_telling (drop l.byte-index l.name) ≡ list_any is_telling l.name
