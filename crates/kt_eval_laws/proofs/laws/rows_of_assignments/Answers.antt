use Rattle.kt_eval_laws.proofs.RowLemmas.{expanding}
use Rattle.kt_eval_laws.proofs.laws.rows_of_assignments.Goals as goal

pub returns : goal.returns
unfolding expanding
returns c = assumption
