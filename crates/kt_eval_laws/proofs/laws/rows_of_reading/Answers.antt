use Rattle.kt_eval_laws.proofs.ReadingRowLemmas.{reading}
use Rattle.kt_eval_laws.proofs.laws.rows_of_reading.Goals as goal

pub returns : goal.returns
unfolding reading
returns c = assumption
