use Rattle.std.proofs.Common.{◌++◌}
use Rattle.kt_graph.proofs.nodes.numbering.NameNumbers.with_room.Goals as goal

pub invariant_of-result : goal.invariant_of-result
invariant_of-result c = c.in_ok-none.ensures.placed (c.args.tables ++ c.new.result)
