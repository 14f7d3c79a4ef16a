use Rattle.kt_graph.proofs.Common.{take, rows_held}
use Rattle.kt_graph.specs.inner.nodes.Grouping.{HasMembers}
use Rattle.kt_graph.proofs.nodes.grouping.members_of.Given as goal

abbrev pub invariant-loop-number : goal.invariant-loop-number
invariant-loop-number l = HasMembers l.nodes l.makings (take l.number-index l.numbers) (rows_held l.members.items)
