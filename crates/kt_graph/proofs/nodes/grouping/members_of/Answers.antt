use Rattle.std.proofs.Common.{◌<◌, ℕ, List, length, get_or, take, sym, subst, arith}
use Rattle.kt_graph.proofs.Common.{take_more, rows_held}
use Rattle.kt_graph.specs.inner.nodes.Grouping.{HasMembers}
use Rattle.kt_graph.proofs.lemmas.nodes.GroupingLemmas.{none_noted, one_noted}
use Rattle.kt_graph.proofs.nodes.grouping.members_of.Goals as goal

pub loop-number-init : goal.loop-number-init
loop-number-init c = none_noted c.args.nodes.now c.args.makings (rows_held c.in_ok-members.members.items) c.in_ok-members.ensures

pub loop-number-preserved : goal.loop-number-preserved
loop-number-preserved c =
    let within : c.loop-number.number-index < length c.args.numbers.now = omega arith in
    subst (λ (numbers : List ℕ). HasMembers c.args.nodes.now c.args.makings numbers (rows_held c.note.new.members.items))
    (sym (take_more c.args.numbers.now c.loop-number.number-index 0 within))
    (one_noted c.args.nodes.now c.args.makings (get_or c.args.numbers.now c.loop-number.number-index 0) (take c.loop-number.number-index c.args.numbers.now)
    (rows_held c.loop-number.members.items) (rows_held c.note.new.members.items) c.loop-number.invariant c.in_ok-note.ensures)
