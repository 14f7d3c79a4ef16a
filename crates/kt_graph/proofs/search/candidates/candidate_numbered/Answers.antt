use Rattle.std.proofs.Common.{arith}
use Rattle.kt_graph.proofs.Common.{slice_get_within}
use Rattle.kt_graph.proofs.lemmas.search.EndLemmas.{told_numbered, within_numbered}
use Rattle.kt_graph.proofs.search.candidates.candidate_numbered.Goals as goal

pub returns-clause-candidate : goal.returns-clause-candidate
returns-clause-candidate c = grind (arith, told_numbered)

pub returns-clause-within : goal.returns-clause-within
returns-clause-within c = grind (arith, within_numbered, slice_get_within)
