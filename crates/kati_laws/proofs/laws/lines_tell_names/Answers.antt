use Rattle.kati_laws.proofs.ApartLemmas.{lines_tell_names}
use Rattle.kati_laws.proofs.laws.lines_tell_names.Goals as goal

pub returns : goal.returns
returns c = lines_tell_names
