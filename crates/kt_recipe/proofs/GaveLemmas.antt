-- Two steps in a row that came to a value.
use Rattle.std.proofs.Common.{arith, ◌≡◌}
use Rattle.kt_eval.specs.Outcome.{StepEnd, Gave, StepOver, then_do}

-- what the first of them gave, and what the second made of it
pub record GaveBoth {L A B : Type 0} (first : StepEnd L A) (next : A → StepOver L B) (left : L) (value : B) : Type 0 where
  pub middle : L
  pub given : A
  pub is : first ≡ Gave middle given
  pub rest : next given middle ≡ Gave left value

pub gave_both : {L A B : Type 0} (first : StepEnd L A) (next : A → StepOver L B) (left : L) (value : B) → then_do first next ≡ Gave left value
    → GaveBoth first next left value
gave_both first next left value e = grind arith
