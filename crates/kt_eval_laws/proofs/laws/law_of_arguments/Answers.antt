use Rattle.kt_eval_laws.proofs.SplitLemmas.{are_arguments, arguments_only}
use Rattle.kt_eval_laws.proofs.BalancedLemmas.{balanced_arguments}
use Rattle.kt_eval_laws.proofs.laws.law_of_arguments.Goals as goal

pub returns : goal.returns
returns c = record { are = are_arguments; only = arguments_only; balanced = balanced_arguments }
