use Rattle.std.proofs.Common.{arith}
use Rattle.kt_graph.proofs.Common.{on_ok_weaker}
use Rattle.kt_graph.proofs.lemmas.nodes.StepLemmas.{holds_again}
use Rattle.kt_graph.proofs.nodes.graph_builder.GraphBuilder.leaf_node.Goals as goal

pub returns-in-Some : goal.returns-in-Some
returns-in-Some c = grind (arith, on_ok_weaker, holds_again)
