use Rattle.kt_graph.proofs.Common.{take, NotesAll}
use Rattle.kt_graph.proofs.search.ends.TargetEnds.note_targets.Given as goal

abbrev pub invariant-loop-target : goal.invariant-loop-target
invariant-loop-target l = NotesAll l.fn.self l.self (take l.target-index l.targets) l.number
