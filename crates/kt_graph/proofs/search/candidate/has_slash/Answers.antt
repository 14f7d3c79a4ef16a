use Rattle.std.proofs.Common.{◌∙◌}
use Rattle.kt_graph.proofs.lemmas.search.FitLemmas.{slash_found}
use Rattle.kt_graph.proofs.search.candidate.has_slash.Goals as goal

pub returns : goal.returns
returns c = c.is_some.ensures ∙ slash_found c.args.text.now c.memchr.result c.memchr.ensures
