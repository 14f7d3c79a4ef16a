use Rattle.std.proofs.Common.{◌≡◌, [], drop, fold, get_or}
use Rattle.kt_graph.proofs.Common.{flat_map, inputs_held, with_input_number}
use Rattle.kt_graph.proofs.nodes.inputs.input_set.Given as goal

abbrev pub invariant-loop-part : goal.invariant-loop-part
invariant-loop-part l =
    fold with_input_number l.inputs.keys (flat_map (λ part. get_or l.rows part.needs []) (drop l.part-index l.parts)) ≡ inputs_held l.rows l.parts
