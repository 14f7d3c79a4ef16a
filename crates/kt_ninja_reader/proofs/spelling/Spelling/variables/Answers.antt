use Rattle.std.proofs.Common.{arith, append_assoc, append-nil}
use Rattle.kt_ninja_reader.proofs.lemmas.SpelledParts.{names_end, names_from}
use Rattle.kt_ninja_reader.proofs.spelling.Spelling.variables.Goals as goal

pub loop-dollar-preserved : goal.loop-dollar-preserved
loop-dollar-preserved c = grind (arith, names_from, append_assoc)

pub returns-in_default : goal.returns-in_default
returns-in_default c = grind (arith, append-nil, names_end)
