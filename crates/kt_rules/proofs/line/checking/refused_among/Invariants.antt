use Rattle.std.proofs.Common.{◌≡◌, drop, find}
use Rattle.kt_rules.specs.Names.{is_refused_name}
use Rattle.kt_rules.proofs.line.checking.refused_among.Given as goal

abbrev pub invariant-loop-name : goal.invariant-loop-name
invariant-loop-name l = find is_refused_name (drop l.name-index l.names) ≡ find is_refused_name l.names
