use Rattle.std.proofs.Common.{◌∙◌, List, ap, length}
use Rattle.kt_graph.proofs.Common.{inputs_of, stored_at, names_at, StoredNode, Text}
use Rattle.kt_graph.proofs.lemmas.nodes.NodeLemmas.{inputs_are, numbers_at}
use Rattle.kt_graph.proofs.nodes.node.Node.inputs.Goals as goal

pub returns : goal.returns
returns c =
    let table = c.self.inside.table.now in
    let number = c.self.inside.number in
    let held = c.nodes.ensures.held in
    c.of.ensures ∙ ap (λ (names : List Text). names_at names c.inputs.result.now) c.names.ensures
    ∙ ap (names_at table.names) (c.inputs.ensures ∙ ap (λ (nodes : List StoredNode). (stored_at nodes number).inputs) c.nodes.ensures.value)
    ∙ inputs_are table.names table.instances number (stored_at table.nodes number) held.distinct (numbers_at (length table.names) (length table.instances) table.nodes held.numbers number)
    ∙ ap inputs_of c.self.view_is
