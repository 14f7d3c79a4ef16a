use Rattle.std.proofs.Common.{get_or}
use Rattle.kt_graph.proofs.lemmas.faults.ArrivalLemmas.{none_circular}
use Rattle.kt_graph.proofs.lemmas.faults.CircleLemmas.{held_in_both}
use Rattle.kt_graph.proofs.faults.cycles.first_circular.Goals as goal

pub returns-then-is_none_left : goal.returns-then-is_none_left
returns-then-is_none_left c = λ k d within.
    none_circular c.args.edges.now c.as_slice.result.now (c.is_none_left.ensures.0 c.if-is_none_left.true) (rw c.as_slice.ensures.value c.in_ok-arrivals.ensures)
    (get_or c.args.order.now k d)

pub first_back-requires : goal.first_back-requires
first_back-requires c =
    held_in_both c.args.edges.now c.in_ok-reversed.reversed c.in_ok-arrivals.arrivals.items c.in_ok-departures.departures.items c.in_ok-held.held.items
    c.in_ok-reversed.ensures c.in_ok-arrivals.ensures c.in_ok-departures.ensures
    (rw (c.as_slice-2.ensures.value, c.as_slice-3.ensures.value) at c.in_ok-held.ensures.quick)
