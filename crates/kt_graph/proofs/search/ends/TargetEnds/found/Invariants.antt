use Rattle.kt_graph.proofs.Common.{take, HasAll}
use Rattle.kt_graph.proofs.search.ends.TargetEnds.found.Given as goal

abbrev pub invariant-loop-length : goal.invariant-loop-length
invariant-loop-length l = HasAll l.self l.name (take l.length-index l.length-items) l.found.items
