use Rattle.std.proofs.Common.{◌≡◌, ◌++◌, List}
use Rattle.kt_graph.proofs.Common.{Text, HasFiles, made_names}
use Rattle.kt_graph.proofs.faults.files.FileSpellings.of.Given as goal

abbrev pub invariant-loop-node : goal.invariant-loop-node
invariant-loop-node l = (before : List Text) × HasFiles l.files before × (before ++ made_names l.node-iterator ≡ made_names l.fn.nodes)
