use Rattle.std.proofs.Common.{◌≡◌, drop}
use Rattle.kt_graph.specs.inner.nodes.Inputs.{rise_after}
use Rattle.kt_graph.proofs.nodes.inputs.rise_after.Given as goal

abbrev pub invariant-loop-number : goal.invariant-loop-number
invariant-loop-number l = rise_after l.last (drop l.number-index l.numbers) ≡ rise_after l.first l.numbers
