use Rattle.std.proofs.Common.{◌≡◌}
use Rattle.kt_graph.specs.inner.faults.Edges.{numbers_after}
use Rattle.kt_graph.proofs.faults.edges.making_numbers.Given as goal

abbrev pub invariant-loop-making : goal.invariant-loop-making
invariant-loop-making l = l.numbers.items ≡ numbers_after l.names l.making
