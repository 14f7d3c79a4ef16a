use Rattle.std.proofs.Common.{◌≡◌, ◌++◌, drop}
use Rattle.kt_ninja_reader.proofs.Common.{flat_map, byte_in_quotes}
use Rattle.kt_ninja_reader.proofs.scopes.add_quoted.Given as goal

abbrev pub invariant-loop-byte : goal.invariant-loop-byte
invariant-loop-byte l = l.text.items ++ flat_map byte_in_quotes (drop l.byte-index l.path) ≡ l.fn.text.items ++ flat_map byte_in_quotes l.path
