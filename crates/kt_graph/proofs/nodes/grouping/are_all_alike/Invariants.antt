use Rattle.std.proofs.Common.{take}
use Rattle.kt_graph.specs.inner.nodes.Grouping.{AreAllAlike}
use Rattle.kt_graph.proofs.nodes.grouping.are_all_alike.Given as goal

abbrev pub invariant-loop-number : goal.invariant-loop-number
invariant-loop-number l = AreAllAlike l.nodes l.one (take l.number-index l.numbers)
