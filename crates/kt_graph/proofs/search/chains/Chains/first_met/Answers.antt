use Rattle.std.proofs.Common.{length, arith}
use Rattle.kt_graph.proofs.lemmas.search.CandidateViewLemmas.{found_this, read_itself}
use Rattle.kt_graph.proofs.search.chains.Chains.first_met.Goals as goal

pub returns-then-branch : goal.returns-then-branch
returns-then-branch c = grind (arith, length, found_this, read_itself)
