use Rattle.std.proofs.Common.{◌+◌, ◌-◌, ◌∙◌, drop, length, sym, take}
use Rattle.kt_graph.proofs.Common.{ltb-false, take_rest, rows_held}
use Rattle.kt_graph.proofs.lemmas.nodes.GroupingLemmas.{none_next, some_next}
use Rattle.kt_graph.proofs.nodes.grouping.Groups.next_into.Goals as goal

pub returns-in-None : goal.returns-in-None
returns-in-None c =
    sym c.self.view_is
    ∙ none_next c.self.inside.table.now (rows_held c.self.inside.members.items) c.self.inside.numbers.now
    c.leader-place.result (rw (c.as_slice.ensures.value, c.nodes-nodes.ensures.value) at c.leader-place.ensures) (ltb-false _ _ (sym c.in-None.ensures.lookup.0))

pub returns-in_ok-put_group-in-Some : goal.returns-in_ok-put_group-in-Some
returns-in_ok-put_group-in-Some c =
    let numbers = c.self.inside.numbers.now in
    let place = c.leader-place.result in
    sym c.self.view_is
    ∙ some_next c.self.inside.table.now (rows_held c.self.inside.members.items) numbers place
    c.in-Some.number.now c.put_group.new.group.items (take (length numbers - (place + 1)) (drop (place + 1) numbers))
    (rw (c.as_slice.ensures.value, c.nodes-nodes.ensures.value) at c.leader-place.ensures) c.in-Some.ensures.lookup.3.0 c.in-Some.ensures.lookup.1
    (rw (c.clear.ensures.items, c.as_slice-in-Some.ensures.value) at c.in_ok-put_group-in-Some.ensures) (take_rest numbers (place + 1))
