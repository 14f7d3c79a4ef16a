use Rattle.std.proofs.Common.{◌≡◌, ◌++◌, map, drop}
use Rattle.kt_graph.proofs.nodes.byte_order.numbers.Given as goal

abbrev pub invariant-loop-front : goal.invariant-loop-front
invariant-loop-front l = l.numbers.items ++ map (λ front. front.number) (drop l.front-index l.fronts) ≡ map (λ front. front.number) l.fronts
