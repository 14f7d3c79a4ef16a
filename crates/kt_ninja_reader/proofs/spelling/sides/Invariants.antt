use Rattle.std.proofs.Common.{length}
use Rattle.kt_ninja_reader.proofs.lemmas.SpelledLemmas.{Scanned}
use Rattle.kt_ninja_reader.proofs.spelling.sides.Given as goal

abbrev pub invariant-loop-byte : goal.invariant-loop-byte
invariant-loop-byte l = Scanned l.mark l.text l.rest

abbrev pub decreases-loop-byte : goal.decreases-loop-byte
decreases-loop-byte l = length l.rest
