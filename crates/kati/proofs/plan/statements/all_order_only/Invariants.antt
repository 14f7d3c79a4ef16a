use Rattle.std.proofs.Common.{◌≡◌, drop, fold, flat_map}
use Rattle.kati.proofs.Common.{with_name, without_repeats, order_only_of}
use Rattle.kati.proofs.plan.statements.all_order_only.Given as goal

abbrev pub invariant-loop-node : goal.invariant-loop-node
invariant-loop-node l =
    fold with_name l.names (flat_map order_only_of (drop l.node-index l.group)) ≡ without_repeats (flat_map order_only_of l.group)
