use Rattle.kt_eval_laws.proofs.StoreLemmas.{agreeing_are_steady, steady_agree}
use Rattle.kt_eval_laws.proofs.laws.steady_answers_have_a_store.Goals as goal

pub returns : goal.returns
returns c = record { some = steady_agree; only = agreeing_are_steady }
