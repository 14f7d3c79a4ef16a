use Rattle.std.proofs.Common.{arith}
use Rattle.kt_graph.proofs.Common.{IfOk-weaker}
use Rattle.kt_graph.proofs.lemmas.search.UnknownLemmas.{known_both}
use Rattle.kt_graph.proofs.search.knowing.knows_all.Goals as goal

pub returns-then-branch : goal.returns-then-branch
returns-then-branch c = grind (arith, IfOk-weaker, known_both)
