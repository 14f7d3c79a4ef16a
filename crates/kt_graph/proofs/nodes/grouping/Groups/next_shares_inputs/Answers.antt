use Rattle.std.proofs.Common.{◌+◌, drop, refl, sym, ◌∙◌}
use Rattle.kt_graph.proofs.Common.{rows_held, nodes_view}
use Rattle.kt_graph.specs.inner.nodes.Grouping.{groups_left, members_of}
use Rattle.kt_graph.proofs.lemmas.nodes.GroupingLemmas.{some_next}
use Rattle.kt_graph.proofs.lemmas.nodes.SharedLemmas.{first_shares, share_inputs}
use Rattle.kt_graph.proofs.nodes.grouping.Groups.next_shares_inputs.Goals as goal

pub returns-in-Some : goal.returns-in-Some
returns-in-Some c = record {
  quick = λ yes.
      let table = c.self.inside.table.now in
      let members = rows_held c.self.inside.members.items in
      let numbers = c.self.inside.numbers.now in
      let place = c.leader-place.result in
      let number = c.in-Some.number.now in
      let group = members_of table.nodes members number in
      let rest = drop (place + 1) numbers in
      first_shares c.args.self.now (groups_left table members rest) (nodes_view table group)
      (sym c.self.view_is
      ∙ some_next table members numbers place number (nodes_view table group) rest
      (rw (c.as_slice.ensures.value, c.nodes-nodes.ensures.value) at c.leader-place.ensures) c.in-Some.ensures.lookup.3.0 c.in-Some.ensures.lookup.1 refl refl)
      (share_inputs table c.nodes-nodes.ensures.held number group (rw (c.as_slice-in-Some.ensures.value, c.nodes-nodes.ensures.value) at c.are_members_alike.ensures.quick yes));
}
