use Rattle.kt_graph.proofs.lemmas.nodes.GroupLaw.{are_groups}
use Rattle.kt_graph_laws.proofs.laws.groups_are_makings.Goals as goal

pub returns : goal.returns
returns c = are_groups
