use Rattle.std.proofs.Common.{length, refl, ⊎_elim, arith}
use Rattle.kt_graph.proofs.Common.{cases_lt, get_or_past}
use Rattle.kt_graph.proofs.faults.cycles.left_in_both.Goals as goal

pub loop-vertex-init : goal.loop-vertex-init
loop-vertex-init c = (rw c.in_ok-held.ensures.items refl, λ vertex less. absurd (omega (arith, less)))

pub returns : goal.returns
returns c = record { quick = grind (arith, ⊎_elim, length, get_or_past, cases_lt) }
