use Rattle.kt_graph.proofs.lemmas.nodes.ReachedNames.{others_more, step_numbered, step_placed}
use Rattle.kt_graph.proofs.nodes.numbering.NameNumbers.number.Goals as goal

pub invariant_of-self : goal.invariant_of-self
invariant_of-self c =
    let held = c.self.inside in
    others_more held.tables held.others c.note.new.others held.reached.numbers.items held.reached.marks.items c.note.ensures.grown c.self.invariant

pub invariant_of-self-2 : goal.invariant_of-self-2
invariant_of-self-2 c =
    let held = c.self.inside in
    step_placed held.tables held.others c.note.new.others c.args.self.now c.note.ensures.grown held.reached c.reach.new.self c.args.name.now c.in_ok-number.number
    c.reach.result c.self.view_is c.self.invariant c.in_ok-number.ensures.noted c.reach.ensures.reached c.reach.ensures.refused

pub returns-clause-numbered : goal.returns-clause-numbered
returns-clause-numbered c =
    let held = c.self.inside in
    step_numbered held.tables held.others c.note.new.others c.args.self.now c.note.ensures.grown held.reached c.reach.new.self c.args.name.now c.in_ok-number.number
    c.reach.result c.self.view_is c.self.invariant c.in_ok-number.ensures.noted c.reach.ensures.reached c.reach.ensures.refused
