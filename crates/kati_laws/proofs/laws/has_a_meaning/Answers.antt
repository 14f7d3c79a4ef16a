use Rattle.kati_laws.proofs.ExistenceLemmas.{has_a_meaning}
use Rattle.kati_laws.proofs.laws.has_a_meaning.Goals as goal

pub returns : goal.returns
returns c = has_a_meaning
