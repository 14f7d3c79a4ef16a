-- The levels of an evaluation, one above the other (kati's own).
use Rattle.kt_eval.specs.Prelude.{ℕ, zero, suc, Bool, Store}
use Rattle.kt_eval.specs.expanding.Expansion.{Evaluator, too_deep, expanded}
use Rattle.kt_eval.specs.reading.Reading.{read_held, included}

-- what may be done with one more level: expand a text, read the text of an `eval`, read an included file
unfoldable pub above : Store → Evaluator → Evaluator
above store e = record {
  reads = e.reads;
  expand = λ text. expanded e text;
  eval = λ text. read_held e text;
  include = λ optional name. included store e optional name;
}

-- if no level is left, nothing is expanded or read
unfoldable pub none_left : Bool → Evaluator
none_left reads = record { reads = reads; expand = λ _. too_deep; eval = λ _. too_deep; include = λ _ _. too_deep }

-- what may be done with a given number of levels left, with files whose bytes are known; lines may be read or not
unfoldable pub evaluator : Bool → Store → ℕ → Evaluator
evaluator reads store zero = none_left reads
evaluator reads store (suc n) = above store (evaluator reads store n)
