use Rattle.std.proofs.Common.{◌≡◌}
use Rattle.kati.proofs.Common.{list_all, Node, is_name}
use Rattle.kati.proofs.plan.planning.has_writable_names.Given as goal

abbrev pub invariant-loop-node : goal.invariant-loop-node
invariant-loop-node l =
    list_all (λ (node : Node). is_name node.name) l.node-iterator ≡ list_all (λ (node : Node). is_name node.name) l.fn.graph
