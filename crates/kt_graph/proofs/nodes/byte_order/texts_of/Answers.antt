use Rattle.std.proofs.Common.{take, arith}
use Rattle.kt_graph.proofs.Common.{map-append}
use Rattle.kt_graph.proofs.lemmas.nodes.OrderLemmas.{taken_more}
use Rattle.kt_graph.proofs.nodes.byte_order.texts_of.Goals as goal

pub loop-number-preserved : goal.loop-number-preserved
loop-number-preserved c = grind (arith, map-append, take, taken_more)
