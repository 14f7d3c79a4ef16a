use Rattle.std.proofs.Common.{arith}
use Rattle.kt_graph.proofs.lemmas.search.NeedLemmas.{plain_spelled}
use Rattle.kt_graph.proofs.search.stemming.Stemming.len.Goals as goal

pub returns-in-None : goal.returns-in-None
returns-in-None c = grind (arith, plain_spelled)
