use Rattle.std.proofs.Common.{arith}
use Rattle.kt_graph.proofs.Common.{on_ok_weaker}
use Rattle.kt_graph.proofs.lemmas.nodes.BuildingLemmas.{joined_first}
use Rattle.kt_graph.proofs.lemmas.nodes.StepLemmas.{implicit_told}
use Rattle.kt_graph.proofs.nodes.graph_builder.GraphBuilder.implicit_node.Goals as goal

pub returns : goal.returns
returns c = grind (arith, on_ok_weaker, implicit_told, joined_first)
