use Rattle.std.proofs.Common.{arith}
use Rattle.kt_rules.proofs.lemmas.line.ReaderLemmas.{reads_long}
use Rattle.kt_rules.proofs.line.reader.RuleReader.long_line.Goals.{in-None-2, in-Some-2+in_ok-of-in-Some-2}
use Rattle.kt_rules.proofs.line.reader.RuleReader.long_line.Goals as goal

pub returns-after-branch-2 : goal.returns-after-branch-2
returns-after-branch-2 c = record { quick = grind (arith, in-None-2, in-Some-2+in_ok-of-in-Some-2, reads_long) }
