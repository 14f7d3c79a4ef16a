use Rattle.std.proofs.Common.{◌≡◌}
use Rattle.kt_graph.proofs.Common.{list_any, is_reserved}
use Rattle.kt_graph.proofs.faults.files.has_always.Given as goal

abbrev pub invariant-loop-node : goal.invariant-loop-node
invariant-loop-node l = list_any (λ node. is_reserved node.name) l.node-iterator ≡ list_any (λ node. is_reserved node.name) l.fn.nodes
