use Rattle.std.proofs.Common.{◌∙◌}
use Rattle.kt_graph.proofs.lemmas.nodes.StoredLemmas.{making_there}
use Rattle.kt_graph.proofs.nodes.grouping.making_at.Goals as goal

pub returns : goal.returns
returns c = c.made_with.ensures ∙ making_there c.args.nodes.now c.args.number
