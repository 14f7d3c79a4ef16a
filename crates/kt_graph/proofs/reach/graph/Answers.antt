use Rattle.kt_graph.proofs.lemmas.nodes.MadeLemmas.{made_inputs}
use Rattle.kt_graph.proofs.reach.graph.Goals as goal

pub returns-clause-inputs : goal.returns-clause-inputs
returns-clause-inputs c = λ files told. made_inputs _ _ _ _ files c.in_ok-graph.ensures told
