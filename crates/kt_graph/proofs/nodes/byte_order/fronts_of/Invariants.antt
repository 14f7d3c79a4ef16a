use Rattle.std.proofs.Common.{map}
use Rattle.kt_graph.specs.inner.nodes.Fronts.{AreFronts}
use Rattle.kt_graph.proofs.nodes.byte_order.fronts_of.Given as goal

abbrev pub invariant-loop-number : goal.invariant-loop-number
invariant-loop-number l = AreFronts (map (λ text. text.now) l.texts) l.number l.fronts.items
