use Rattle.kati.proofs.lemmas.meaning.ReadBackLemmas.{read_back}
use Rattle.kati_laws.proofs.laws.plans_read_back.Goals as goal

pub returns : goal.returns
returns c = read_back
