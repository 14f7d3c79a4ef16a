-- What expanding and reading never remove, and what a larger limit of levels changes.
use Rattle.std.specs.Prelude.{◌≡◌, ℕ, suc}
use Rattle.kt_eval.specs.views.Prelude.{IsPrefix, StepEnd, Gave, Stopped, left_of}
use Rattle.kt_eval.specs.Prelude.{World, StepOver, Step}

-- messages and the names asked for are only added to
abbrev pub Grows : World → World → Type 0
Grows before after = IsPrefix before.said after.said × IsPrefix before.asked after.asked

-- whatever the world before it
abbrev pub TakesNothingBack : {A : Type 0} → Step A → Type 0
TakesNothingBack step = (w : World) → Grows w (left_of (step w))

-- the fault of nesting that is too deep (E08)
abbrev pub IsTooDeep : {L A : Type 0} → StepEnd L A → Type 0
IsTooDeep (Gave left x) = ⊥
IsTooDeep (Stopped left fault) = fault.number ≡ 8

-- a result that isn't too deep with a given number of levels is the same with one more
abbrev pub StaysOneDeeper : {L A : Type 0} → (ℕ → StepOver L A) → Type 0
StaysOneDeeper {L} run =
    (levels : ℕ) (left : L) → (IsTooDeep (run levels left) → ⊥) → run (suc levels) left ≡ run levels left
