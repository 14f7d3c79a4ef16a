use Rattle.std.proofs.Common.{◌≡◌, false, drop}
use Rattle.kt_ninja_reader.specs.JoinedLines.{ends_in_dollar}
use Rattle.kt_ninja_reader.proofs.joined.is_dollar_open.Given as goal

abbrev pub invariant-loop-byte : goal.invariant-loop-byte
invariant-loop-byte l = ends_in_dollar l.pending (drop l.byte-index l.text) ≡ ends_in_dollar false l.text
