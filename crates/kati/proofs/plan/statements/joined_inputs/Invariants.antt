use Rattle.std.proofs.Common.{◌≡◌, drop, fold, flat_map}
use Rattle.kati.proofs.Common.{with_name, inputs_of, joined_inputs}
use Rattle.kati.proofs.plan.statements.joined_inputs.Given as goal

abbrev pub invariant-loop-node : goal.invariant-loop-node
invariant-loop-node l = fold with_name l.inputs (flat_map inputs_of (drop l.node-index l.group)) ≡ joined_inputs l.group
