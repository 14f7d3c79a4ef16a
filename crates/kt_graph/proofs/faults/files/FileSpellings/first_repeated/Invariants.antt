use Rattle.std.proofs.Common.{◌≡◌, List, find}
use Rattle.kt_graph.proofs.Common.{Text, HasFiles, is_repeated, made_names}
use Rattle.kt_graph.proofs.faults.files.FileSpellings.first_repeated.Given as goal

abbrev pub invariant-loop-node : goal.invariant-loop-node
invariant-loop-node l =
    (names : List Text) → HasFiles l.self names → find (is_repeated names) (made_names l.node-iterator) ≡ find (is_repeated names) (made_names l.fn.nodes)
