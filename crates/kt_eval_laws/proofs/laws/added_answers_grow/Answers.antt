use Rattle.kt_eval_laws.proofs.StoreLemmas.{added_grow}
use Rattle.kt_eval_laws.proofs.laws.added_answers_grow.Goals as goal

pub returns : goal.returns
returns c = added_grow
