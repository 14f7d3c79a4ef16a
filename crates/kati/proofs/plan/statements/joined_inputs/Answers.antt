use Rattle.std.proofs.Common.{◌∙◌, rules}
use Rattle.kt_graph.specs.nodes.Node.{inputs_of}
use Rattle.kati.proofs.lemmas.plan.PlanningLemmas.{names_more}
use Rattle.kati.proofs.plan.statements.joined_inputs.Goals as goal

pub loop-node-preserved : goal.loop-node-preserved
loop-node-preserved c =
    names_more inputs_of _ _ c.args.group.now c.loop-node.node-index c.node-item.result c.loop-node-test.true c.node-item.is (search rules)
    ∙ c.loop-node.invariant
