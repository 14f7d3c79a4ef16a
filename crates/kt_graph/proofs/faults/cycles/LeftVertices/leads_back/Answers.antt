use Rattle.std.proofs.Common.{arith}
use Rattle.kt_graph.proofs.Common.{false≢true, nil_from_length}
use Rattle.kt_graph.proofs.lemmas.faults.CircleLemmas.{searches_begun, searches_ended}
use Rattle.kt_graph.proofs.faults.cycles.LeftVertices.leads_back.Goals as goal

pub loop-other-init : goal.loop-other-init
loop-other-init c = grind (arith, searches_begun)

pub returns : goal.returns
returns c = grind (arith, nil_from_length, false≢true, searches_ended)
