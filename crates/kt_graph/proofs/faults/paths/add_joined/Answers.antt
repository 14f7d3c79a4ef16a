use Rattle.std.proofs.Common.{arith, append_assoc}
use Rattle.kt_graph.proofs.lemmas.faults.PartLemmas.{joined_at}
use Rattle.kt_graph.proofs.faults.paths.add_joined.Goals as goal

pub returns-in_ok-extend_from_slice-in-len1-up : goal.returns-in_ok-extend_from_slice-in-len1-up
returns-in_ok-extend_from_slice-in-len1-up c = grind (arith, joined_at, append_assoc)
