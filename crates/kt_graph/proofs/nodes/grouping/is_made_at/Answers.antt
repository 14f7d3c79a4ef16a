use Rattle.std.proofs.Common.{◌≡◌, ◌∙◌, not, ap, rules}
use Rattle.kt_graph.proofs.Common.{NodeKind, is_leaf}
use Rattle.kt_graph.proofs.lemmas.nodes.StoredLemmas.{made_there}
use Rattle.kt_graph.proofs.nodes.grouping.is_made_at.Goals as goal

pub returns : goal.returns
returns c =
    let told : not c.match-matches.matches ≡ not (is_leaf c.kind.result) = search rules in
    told ∙ ap (λ (kind : NodeKind). not (is_leaf kind)) c.kind.ensures ∙ made_there c.args.nodes.now c.args.number
