use Rattle.std.proofs.Common.{arith, get_or, length}
use Rattle.kt_graph.proofs.Common.{slice_get-get_or}
use Rattle.kt_graph.proofs.lemmas.nodes.InputLemmas.{one_alone}
use Rattle.kt_graph.proofs.nodes.stored.head_like.Goals as goal

pub returns : goal.returns
returns c = grind (arith, get_or, slice_get-get_or, length, one_alone)
