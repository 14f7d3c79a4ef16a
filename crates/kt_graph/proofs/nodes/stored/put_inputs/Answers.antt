use Rattle.std.proofs.Common.{arith}
use Rattle.kt_graph.proofs.lemmas.nodes.InputLemmas.{inputs_same, one_alone, order_only_same, own_rows}
use Rattle.kt_graph.proofs.nodes.stored.put_inputs.Goals as goal

pub returns-then-branch-clause-are : goal.returns-then-branch-clause-are
returns-then-branch-clause-are c = grind (arith, own_rows, one_alone)

pub returns-clause-are : goal.returns-clause-are
returns-clause-are c = grind (arith, inputs_same, order_only_same)
