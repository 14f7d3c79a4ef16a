use Rattle.kt_graph_laws.proofs.ResolutionLemmas.{resolution}
use Rattle.kt_graph_laws.proofs.laws.canon_is_resolution.Goals as goal

pub returns : goal.returns
returns c = resolution
