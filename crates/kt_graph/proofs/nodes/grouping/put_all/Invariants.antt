use Rattle.std.proofs.Common.{◌≡◌, ◌++◌, drop}
use Rattle.kt_graph.specs.inner.nodes.NodeTable.{nodes_view}
use Rattle.kt_graph.proofs.nodes.grouping.put_all.Given as goal

abbrev pub invariant-loop-number : goal.invariant-loop-number
invariant-loop-number l =
    l.group.items ++ nodes_view l.table (drop l.number-index l.numbers) ≡ l.fn.group.items ++ nodes_view l.table l.numbers
