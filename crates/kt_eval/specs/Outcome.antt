-- How a call ends (kati's own). A step returns a value or stops at a fault, and leaves something: a world, messages, or
-- messages and names asked for.
use Rattle.kt_eval.specs.declared.fault.Fault.{Fault}

-- how a step ends that leaves an L and returns an A
pub data StepEnd (L A : Type 0) : Type 0 where
  Gave : (left : L) (value : A) → StepEnd L A
  Stopped : (left : L) (fault : Fault) → StepEnd L A

-- what a step leaves, whether it returns a value or stops
abbrev pub left_of : {L A : Type 0} → StepEnd L A → L
left_of (Gave left x) = left
left_of (Stopped left fault) = left

-- a step, given what was left before it
abbrev pub StepOver : Type 0 → Type 0 → Type 0
StepOver L A = L → StepEnd L A

-- one step after another; a fault ends them all
abbrev pub then_do : {L A B : Type 0} → StepEnd L A → (A → StepOver L B) → StepEnd L B
then_do (Gave left x) next = next x left
then_do (Stopped left fault) next = Stopped left fault

-- a step, and then the step that its value chooses; a line `x ← step` of a `do` block means this
infixl 10 ◌>>=◌
abbrev pub ◌>>=◌ : {L A B : Type 0} → StepOver L A → (A → StepOver L B) → StepOver L B
(step >>= next) left = then_do (step left) next

-- a step, and then another step, whatever the first returns; a line of a `do` block without `←` means this
infixl 10 ◌>>◌
abbrev pub ◌>>◌ : {L A B : Type 0} → StepOver L A → StepOver L B → StepOver L B
(step >> next) left = then_do (step left) (λ _. next)

-- a step that returns this value and changes nothing
abbrev pub done : {L A : Type 0} → A → StepOver L A
done x left = Gave left x

-- a step that stops at this fault and changes nothing
abbrev pub stop_at : {L A : Type 0} → Fault → StepOver L A
stop_at fault left = Stopped left fault

-- an outcome as a caller sees it: the value or fault is kept, and of what is left only what `see` gives
abbrev pub leaving : {L M A : Type 0} → (L → M) → StepEnd L A → StepEnd M A
leaving see (Gave left x) = Gave (see left) x
leaving see (Stopped left fault) = Stopped (see left) fault
