use Rattle.std.proofs.Common.{◌<◌, ◌∙◌, ap, length, subst, arith}
use Rattle.kt_graph.proofs.Common.{Text, pattern_back, NotesEnd}
use Rattle.kt_graph.proofs.lemmas.search.NotingLemmas.{none_noted, target_noted}
use Rattle.kt_graph.proofs.search.ends.TargetEnds.note_targets.Goals as goal

pub loop-target-init : goal.loop-target-init
loop-target-init c = none_noted c.args.self.now c.args.number

pub loop-target-preserved : goal.loop-target-preserved
loop-target-preserved c =
    let i = c.loop-target.target-index in
    let within : i < length c.args.targets.now = omega arith in
    target_noted c.args.self.now c.loop-target.self c.note.new.self c.args.targets.now c.args.number i c.target-item.result within
    c.target-item.is c.loop-target.invariant
    (subst (λ (end : Text). NotesEnd c.loop-target.self c.note.new.self end c.args.number) (c.end_of.ensures ∙ ap pattern_back c.as_slice.ensures) c.in_ok-note.ensures)
