use Rattle.std.proofs.Common.{arith}
use Rattle.kt_rules.proofs.line.head_names.plain_targets.Goals as goal

pub loop-word-preserved : goal.loop-word-preserved
loop-word-preserved c = grind arith
