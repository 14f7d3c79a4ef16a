use Rattle.std.proofs.Common.{◌≡◌, ◌++◌, drop, map, string_bytes}
use Rattle.kati.specs.Names.{behind_output, name_lines}
use Rattle.kati.proofs.names.naming.behind_output.Given as goal

abbrev pub invariant-loop-name : goal.invariant-loop-name
invariant-loop-name l = l.text.items ++ name_lines (map string_bytes (drop l.name-index l.names)) ≡ behind_output (map string_bytes l.names)
