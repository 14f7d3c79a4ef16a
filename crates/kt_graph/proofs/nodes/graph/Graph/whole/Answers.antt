use Rattle.kt_graph.proofs.lemmas.nodes.GraphLemmas.{graph_is}
use Rattle.kt_graph.proofs.nodes.graph.Graph.whole.Goals as goal

pub invariant_of-result : goal.invariant_of-result
invariant_of-result c = record { held = c.nodes-nodes.ensures.held; as_many = c.requires; rises = rw c.names.ensures at c.in_ok-order.ensures }

pub returns : goal.returns
returns c = λ rules known goals done.
    graph_is c.args.table c.in_ok-order.order.items
    record { held = c.nodes-nodes.ensures.held; as_many = c.requires; rises = rw c.names.ensures at c.in_ok-order.ensures }
    rules known goals done
