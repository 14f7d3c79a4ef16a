use Rattle.kt_graph.proofs.Common.{sym, subst, MatchOption-at_none, MatchOption-at_some, IsGraph}
use Rattle.kt_graph.proofs.lemmas.faults.CyclicLemmas.{first_cyclic, none_cyclic}
use Rattle.kt_graph.proofs.faults.first_trouble.circular.Goals as goal

pub returns-in-Some : goal.returns-in-Some
returns-in-Some c = λ rules known goals graph.
    let held = c.graph.inside in
    let first = MatchOption-at_some _ _ c.in-Some.number c.in-Some.is c.in_ok-number.ensures in
    rw (c.name_of.ensures, c.names.ensures)
    (first_cyclic held.table held.order.items c.graph.invariant rules known goals
    (subst (IsGraph rules known goals) (sym c.graph.view_is) graph) c.in_ok-edges.edges
    (rw c.nodes.ensures.value at c.in_ok-edges.ensures.edges) c.in-Some.number (rw c.as_slice.ensures.value at first))

pub returns : goal.returns
returns c = λ rules known goals graph.
    let held = c.graph.inside in
    let none = MatchOption-at_none _ _ c.in-None.is c.in_ok-number.ensures in
    none_cyclic held.table held.order.items c.graph.invariant rules known goals
    (subst (IsGraph rules known goals) (sym c.graph.view_is) graph) c.in_ok-edges.edges
    (rw c.nodes.ensures.value at c.in_ok-edges.ensures.edges) (rw c.as_slice.ensures.value at none)
