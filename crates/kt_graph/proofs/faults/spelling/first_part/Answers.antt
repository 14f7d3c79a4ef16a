use Rattle.std.proofs.Common.{arith, take}
use Rattle.std.proofs.lemmas.List.{take_rest}
use Rattle.kt_graph.proofs.lemmas.faults.SpellingLemmas.{cut_at_slash}
use Rattle.kt_graph.proofs.faults.spelling.first_part.Goals as goal

pub returns-clause-parts : goal.returns-clause-parts
returns-clause-parts c = grind (arith, cut_at_slash, take, take_rest)
