use Rattle.std.proofs.Common.{arith}
use Rattle.kt_graph.proofs.Common.{on_ok_weaker}
use Rattle.kt_graph.proofs.lemmas.search.UnknownLemmas.{one_unknown}
use Rattle.kt_graph.proofs.search.chains.Chains.add_if_unknown.Goals as goal

pub returns : goal.returns
returns c = grind (arith, on_ok_weaker, one_unknown)
