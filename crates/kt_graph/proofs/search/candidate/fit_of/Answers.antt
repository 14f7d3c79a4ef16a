use Rattle.std.proofs.Common.{arith}
use Rattle.std.proofs.lemmas.List.{take_rest}
use Rattle.kt_graph.proofs.lemmas.search.FitLemmas.{empty_fit, fit_found}
use Rattle.kt_graph.proofs.search.candidate.fit_of.Goals as goal

pub returns-then-is_empty-clause-fit : goal.returns-then-is_empty-clause-fit
returns-then-is_empty-clause-fit c = grind (arith, empty_fit, take_rest)

pub returns-clause-fit : goal.returns-clause-fit
returns-clause-fit c = grind (arith, fit_found, take_rest)
