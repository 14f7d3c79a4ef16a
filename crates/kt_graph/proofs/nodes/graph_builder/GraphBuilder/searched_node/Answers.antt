use Rattle.std.proofs.Common.{arith, []}
use Rattle.kt_graph.proofs.Common.{on_ok_weaker}
use Rattle.kt_graph.proofs.lemmas.nodes.StepLemmas.{builds_after, over_kept}
use Rattle.kt_graph.proofs.nodes.graph_builder.GraphBuilder.searched_node.Goals as goal

pub plain_node-requires : goal.plain_node-requires
plain_node-requires c = over_kept c.args.self.now c.inferred.new.self [] [] c.in_ok-inferred.ensures.kept c.requires

pub returns-in-Some : goal.returns-in-Some
returns-in-Some c = grind (arith, on_ok_weaker, builds_after)
