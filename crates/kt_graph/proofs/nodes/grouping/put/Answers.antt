use Rattle.std.proofs.Common.{arith, length}
use Rattle.kt_graph.proofs.Common.{append-nil, slice_get_past}
use Rattle.kt_graph.proofs.nodes.grouping.put.Goals as goal

pub returns-else-number-len : goal.returns-else-number-len
returns-else-number-len c = grind (arith, append-nil, slice_get_past, length)
