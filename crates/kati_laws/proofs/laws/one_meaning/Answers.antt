use Rattle.kati_laws.proofs.OnceLemmas.{one_meaning}
use Rattle.kati_laws.proofs.laws.one_meaning.Goals as goal

pub returns : goal.returns
returns c = one_meaning
