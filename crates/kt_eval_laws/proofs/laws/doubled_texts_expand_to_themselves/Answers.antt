use Rattle.kt_eval.specs.expanding.Levels.{evaluator}
use Rattle.kt_eval_laws.proofs.DoublingLemmas.{doubled-expanded, doubled-found}
use Rattle.kt_eval_laws.proofs.laws.doubled_texts_expand_to_themselves.Goals as goal

pub returns : goal.returns
returns c = record {
  expands = λ reads store levels text w. doubled-expanded (evaluator reads store levels) w text;
  gives = doubled-found;
}
