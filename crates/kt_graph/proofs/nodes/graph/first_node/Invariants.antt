use Rattle.std.proofs.Common.{◌≡◌, length}
use Rattle.kt_graph.specs.inner.nodes.NodeTable.{nodes_view}
use Rattle.kt_graph.proofs.nodes.graph.first_node.Given as goal

abbrev pub invariant-loop-left : goal.invariant-loop-left
invariant-loop-left l = nodes_view l.table l.left ≡ nodes_view l.table l.numbers

abbrev pub decreases-loop-left : goal.decreases-loop-left
decreases-loop-left l = length l.left
