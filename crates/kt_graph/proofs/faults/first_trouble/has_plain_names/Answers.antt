use Rattle.std.proofs.Common.{◌≡◌, All, List, false, ⊎_elim, subst, arith, ap, length}
use Rattle.kt_graph.proofs.Common.{list_any, cases_lt, Text, canon_of, is_reserved, made_names, Node, nodes_view}
use Rattle.kt_graph.proofs.lemmas.faults.PlainNameLemmas.{made_canonical, none_reserved, of_nodes}
use Rattle.kt_graph.proofs.faults.first_trouble.has_plain_names.Goals as goal

pub loop-number-init : goal.loop-number-init
loop-number-init c = λ place within. absurd (omega (arith, within))

pub loop-number-preserved : goal.loop-number-preserved
loop-number-preserved c = grind (arith, ⊎_elim, cases_lt)

pub returns-clause-quick_unreserved : goal.returns-clause-quick_unreserved
returns-clause-quick_unreserved c = λ yes.
    subst (λ (nodes : List Node). list_any (λ (node : Node). is_reserved node.name) nodes ≡ false) c.graph.view_is
    (none_reserved (nodes_view c.graph.inside.table c.graph.inside.order.items)
    (of_nodes (λ (name : Text). is_reserved name ≡ false) c.graph.inside.table
    (λ number within. rw c.names-names.ensures at ((c.loop-number.invariant number (omega (arith, ap length c.names-names.ensures))).1))
    c.graph.inside.order.items (λ number has. (c.graph.invariant.rises.all number).0 has)))

pub returns-clause-quick_canonical : goal.returns-clause-quick_canonical
returns-clause-quick_canonical c = λ yes.
    subst (λ (nodes : List Node). All (λ (name : Text). canon_of name ≡ name) (made_names nodes)) c.graph.view_is
    (made_canonical (nodes_view c.graph.inside.table c.graph.inside.order.items)
    (of_nodes (λ (name : Text). canon_of name ≡ name) c.graph.inside.table
    (λ number within. rw c.names-names.ensures at ((c.loop-number.invariant number (omega (arith, ap length c.names-names.ensures))).0))
    c.graph.inside.order.items (λ number has. (c.graph.invariant.rises.all number).0 has)))
