use Rattle.kt_eval_laws.proofs.StoreLemmas.{agreeing_holds, holding_agrees}
use Rattle.kt_eval_laws.proofs.laws.agreement_is_of_each.Goals as goal

pub returns : goal.returns
returns c = record { agreeing = agreeing_holds; holding = holding_agrees }
