-- A call that expands a text after all reading, as recipes are (kati's own).
use Rattle.kt_eval.specs.Prelude.{List, Text, StepOver}
use Rattle.kt_eval.specs.views.Prelude.{Result, Stop, IsPrefix, AsksNothing, Gives, IfCut, left_of}

-- The call does the step, which leaves messages, and asks for no file; its result is seen by `see`.
pub record Says {A B : Type 0} (see : A → B) (step : StepOver (List Text) B) (result : Result A Stop)
    (old new : List Text) : Type 0 where
  pub gives : Gives see result new (step old)
  -- messages are appended; if memory ran out, a prefix of those of the step
  pub appends : IsPrefix old new
  pub cut : IfCut result (IsPrefix new (left_of (step old)))
  pub asks_nothing : AsksNothing result
