use Rattle.std.proofs.Common.{◌≡◌, [], drop, fold}
use Rattle.kt_graph.specs.inner.nodes.Inputs.{numbers_without, others_held, with_input_number}
use Rattle.kt_graph.proofs.nodes.inputs.order_only_set.Given as goal

abbrev pub invariant-loop-part : goal.invariant-loop-part
invariant-loop-part l =
    fold with_input_number l.others.keys (numbers_without l.inputs.keys (others_held l.rows (drop l.part-index l.parts)))
    ≡ fold with_input_number [] (numbers_without l.inputs.keys (others_held l.rows l.parts))
