use Rattle.std.proofs.Common.{sym}
use Rattle.kt_graph.proofs.lemmas.nodes.GraphLemmas.{node_found, node_missing}
use Rattle.kt_graph.proofs.nodes.graph.Graph.node.Goals as goal

pub returns-in-None : goal.returns-in-None
returns-in-None c =
    let graph = c.self.inside in
    rw (← c.self.view_is)
    (sym (node_missing graph.table graph.order.items c.self.invariant c.args.name.now (sym (rw c.names.ensures at c.in-None.ensures.found))))

pub returns-in-Some : goal.returns-in-Some
returns-in-Some c =
    let graph = c.self.inside in
    rw (← c.self.view_is, c.node_at.ensures)
    (node_found graph.table graph.order.items c.self.invariant c.args.name.now c.in-Some.number (sym (rw c.names.ensures at c.in-Some.ensures.place)))
