use Rattle.std.proofs.Common.{arith}
use Rattle.kt_ninja_reader.proofs.lemmas.SpelledLemmas.{spelled_more}
use Rattle.kt_ninja_reader.proofs.spelling.is_spelled.Goals as goal

pub loop-after-preserved : goal.loop-after-preserved
loop-after-preserved c = grind (arith, spelled_more)
