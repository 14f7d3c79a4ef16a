use Rattle.std.proofs.Common.{◌∙◌, List, ap, length}
use Rattle.kt_graph.proofs.Common.{order_only_of, stored_at, names_at, StoredNode, Text}
use Rattle.kt_graph.proofs.lemmas.nodes.NodeLemmas.{numbers_at, others_are}
use Rattle.kt_graph.proofs.nodes.node.Node.order_only.Goals as goal

pub returns : goal.returns
returns c =
    let table = c.self.inside.table.now in
    let number = c.self.inside.number in
    let held = c.nodes.ensures.held in
    c.of.ensures ∙ ap (λ (names : List Text). names_at names c.order_only.result.now) c.names.ensures
    ∙ ap (names_at table.names) (c.order_only.ensures ∙ ap (λ (nodes : List StoredNode). (stored_at nodes number).order_only) c.nodes.ensures.value)
    ∙ others_are table.names table.instances number (stored_at table.nodes number) held.distinct (numbers_at (length table.names) (length table.instances) table.nodes held.numbers number)
    ∙ ap order_only_of c.self.view_is
