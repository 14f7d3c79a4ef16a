use Rattle.std.proofs.Common.{◌≡◌, All}
use Rattle.kt_graph.proofs.Common.{made_names, canon_of}
use Rattle.kt_graph.proofs.faults.files.are_canonical.Given as goal

abbrev pub invariant-loop-node : goal.invariant-loop-node
invariant-loop-node l =
    All (λ name. canon_of name ≡ name) (made_names l.node-iterator) → All (λ name. canon_of name ≡ name) (made_names l.fn.nodes)
