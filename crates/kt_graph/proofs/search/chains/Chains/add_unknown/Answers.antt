use Rattle.std.proofs.Common.{arith}
use Rattle.kt_graph.proofs.lemmas.search.UnknownLemmas.{unknown_past}
use Rattle.kt_graph.proofs.search.chains.Chains.add_unknown.Goals as goal

pub returns : goal.returns
returns c = grind (arith, unknown_past)
