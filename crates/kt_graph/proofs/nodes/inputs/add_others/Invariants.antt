use Rattle.std.proofs.Common.{◌≡◌, drop, fold}
use Rattle.kt_graph.specs.inner.nodes.Inputs.{numbers_without, with_input_number}
use Rattle.kt_graph.proofs.nodes.inputs.add_others.Given as goal

abbrev pub invariant-loop-number : goal.invariant-loop-number
invariant-loop-number l =
    fold with_input_number l.set.keys (numbers_without l.others.keys (drop l.number-index l.numbers))
    ≡ fold with_input_number l.fn.set.keys (numbers_without l.others.keys l.numbers)
