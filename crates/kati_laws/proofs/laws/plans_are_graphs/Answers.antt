use Rattle.kati.proofs.lemmas.meaning.ExactLemmas.{are_graphs}
use Rattle.kati_laws.proofs.laws.plans_are_graphs.Goals as goal

pub returns : goal.returns
returns c = are_graphs
