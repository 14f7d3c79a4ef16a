use Rattle.std.proofs.Common.{◌∙◌}
use Rattle.kt_graph.proofs.Common.{take_rest, percent_found}
use Rattle.kt_graph.proofs.lemmas.search.EndLemmas.{no_back}
use Rattle.kt_graph.proofs.search.ends.end_of.Goals as goal

pub returns-in-Some : goal.returns-in-Some
returns-in-Some c = take_rest c.args.pattern.now _ ∙ (percent_found c.args.pattern.now c.in-Some.place c.in-Some.ensures).2

pub returns-in-None : goal.returns-in-None
returns-in-None c = no_back c.args.pattern.now c.in-None.ensures
