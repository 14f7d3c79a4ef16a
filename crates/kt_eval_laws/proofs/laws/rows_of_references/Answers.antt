use Rattle.kt_eval.proofs.Common.{refl}
use Rattle.kt_eval_laws.proofs.RowLemmas.{expanding}
use Rattle.kt_eval_laws.proofs.laws.rows_of_references.Goals as goal

pub returns : goal.returns
unfolding expanding
returns c = record {
  undefined = refl;
  nested = refl;
  substituted = refl;
  immediate_kept = refl;
  unterminated = refl;
  recursive = refl;
  empty_level = refl;
  automatic_first = refl;
  binding_first = refl;
  dollar_level = refl;
}
