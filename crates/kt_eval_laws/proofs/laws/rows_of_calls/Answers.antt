use Rattle.kt_eval.proofs.Common.{refl}
use Rattle.kt_eval_laws.proofs.RowLemmas.{expanding}
use Rattle.kt_eval_laws.proofs.laws.rows_of_calls.Goals as goal

pub returns : goal.returns
unfolding expanding
returns c = record {
  joined = refl;
  blank_condition = refl;
  argument = refl;
  stopped = refl;
  refused = refl;
  bad = refl;
  few = refl;
  in_recipe = refl;
  not_called = refl;
  cut_by_bytes = refl;
  other_marks = refl;
}
