use Rattle.kt_eval_laws.proofs.StoreLemmas.{memory_agrees}
use Rattle.kt_eval_laws.proofs.laws.files_in_memory_agree.Goals as goal

pub returns : goal.returns
returns c = memory_agrees
