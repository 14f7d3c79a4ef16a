use Rattle.kati_laws.proofs.AskedLemmas.{names_are_asked}
use Rattle.kati_laws.proofs.laws.names_are_asked.Goals as goal

pub returns : goal.returns
returns c = names_are_asked
