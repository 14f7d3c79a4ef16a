use Rattle.std.proofs.Common.{arith}
use Rattle.kt_graph.proofs.Common.{[], sym, append-nil, needed_view}
use Rattle.kt_graph.proofs.lemmas.nodes.ReachedNames.{place_first, step_numbered, step_placed, step_reached}
use Rattle.kt_graph.proofs.nodes.numbering.NameNumbers.needed_number.Goals as goal

pub invariant_of-self : goal.invariant_of-self
invariant_of-self c =
    let held = c.self.inside in
    let name = needed_view c.args.name in
    let at = place_first held.tables held.others name c.in-Some.number c.in-Some.ensures.quick in
    step_placed held.tables held.others held.others c.args.self.now ([], sym (append-nil held.others)) held.reached c.reach.new.self name c.in-Some.number
    c.reach.result c.self.view_is c.self.invariant at c.reach.ensures.reached c.reach.ensures.refused

pub returns-in-Some-clause-numbered : goal.returns-in-Some-clause-numbered
returns-in-Some-clause-numbered c =
    let held = c.self.inside in
    let name = needed_view c.args.name in
    let at = place_first held.tables held.others name c.in-Some.number c.in-Some.ensures.quick in
    step_numbered held.tables held.others held.others c.args.self.now ([], sym (append-nil held.others)) held.reached c.reach.new.self name c.in-Some.number
    c.reach.result c.self.view_is c.self.invariant at c.reach.ensures.reached c.reach.ensures.refused

pub returns-in-Some-clause-reached : goal.returns-in-Some-clause-reached
returns-in-Some-clause-reached c = grind (arith, place_first, step_reached, append-nil)
