use Rattle.std.proofs.Common.{arith}
use Rattle.kt_graph.proofs.Common.{IfOk-weaker}
use Rattle.kt_graph.proofs.lemmas.nodes.InferringLemmas.{some_tells}
use Rattle.kt_graph.proofs.nodes.graph_builder.GraphBuilder.inferred.Goals as goal

pub returns-in-Some-clause-tells : goal.returns-in-Some-clause-tells
returns-in-Some-clause-tells c = grind (arith, IfOk-weaker, some_tells)
