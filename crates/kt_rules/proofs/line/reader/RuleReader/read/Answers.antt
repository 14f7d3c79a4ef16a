use Rattle.std.proofs.Common.{arith}
use Rattle.kt_rules.proofs.Common.{rule_of}
use Rattle.kt_rules.proofs.line.reader.RuleReader.read.Goals.{in-Ok-Some, in-Ok-None, in-Err+in-Some-1, in-Err+in-None-1}
use Rattle.kt_rules.proofs.line.reader.RuleReader.read.Goals as goal

pub returns : goal.returns
unfolding rule_of
returns c = grind (arith, in-Ok-Some, in-Ok-None, in-Err+in-Some-1, in-Err+in-None-1)
