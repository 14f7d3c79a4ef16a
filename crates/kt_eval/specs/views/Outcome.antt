-- How a call of the code ended: the step that it did, what holds if it was cut off, and which device it blames (kati's
-- own).
use Rattle.std.specs.Prelude.{Result, Ok, Err, ◌≡◌, ℕ, Some, List, string_bytes}
use Rattle.kt_eval.specs.declared.stop.Stop.{Stop}
use Rattle.kt_eval.specs.declared.stop.Stop.TheVariants as stops
use Rattle.kt_eval.specs.Outcome.{StepEnd, Gave, Stopped}
use Rattle.kt_list.specs.Counters.{Rises}
use Rattle.kt_text.specs.Words.{Text}
use Rattle.kt_eval.specs.files.Files.{FilesSeen}
use Rattle.kt_list.specs.Prefixes.{last}
use Rattle.kt_eval.specs.Step.{fault_at}
use Rattle.kt_rules.specs.declared.fault.RuleFault.{RuleFault}
use Rattle.kt_rules.specs.declared.fault.RuleFault.TheVariants.{Memory, Refused}

-- `R` allows for `x` that a call was stopped and left this; if memory ran out or a device failed, this says nothing
abbrev pub Stops : {X L A : Type 0} → (X → StepEnd L A → Type 0) → X → Stop → L → Type 0
Stops R x (stops.Fault fault) left = R x (Stopped left fault)
Stops R x (stops.Device name) left = Unit {0}
Stops R x stops.Memory left = Unit {0}

-- `R` allows for `x` that any call ended so and left this: with a value, seen by `see`, or with a stop, as `Stops` says
abbrev pub Ends : {X L A B : Type 0} → (X → StepEnd L B → Type 0) → X → (A → B) → Result A Stop → L → Type 0
Ends R x see (Ok value) left = R x (Gave left (see value))
Ends R x see (Err stop) left = Stops R x stop left

-- what it returned and left is this outcome
abbrev pub Fails : {L A : Type 0} → Stop → L → StepEnd L A → Type 0
Fails stop left outcome = Stops ◌≡◌ outcome stop left

abbrev pub Gives : {L A B : Type 0} → (A → B) → Result A Stop → L → StepEnd L B → Type 0
Gives see result left outcome = Ends ◌≡◌ outcome see result left

-- this holds if memory ran out or a device failed
abbrev pub IfCutBy : Stop → Type 0 → Type 0
IfCutBy (stops.Fault fault) P = Unit {0}
IfCutBy (stops.Device name) P = P
IfCutBy stops.Memory P = P

abbrev pub IfCut : {A : Type 0} → Result A Stop → Type 0 → Type 0
IfCut (Ok x) P = Unit {0}
IfCut (Err stop) P = IfCutBy stop P

-- a step that asks for no file isn't stopped by a device
abbrev pub IsOfNoDevice : Stop → Type 0
IsOfNoDevice (stops.Fault fault) = Unit {0}
IsOfNoDevice (stops.Device name) = ⊥
IsOfNoDevice stops.Memory = Unit {0}

abbrev pub AsksNothing : {A : Type 0} → Result A Stop → Type 0
AsksNothing (Ok x) = Unit {0}
AsksNothing (Err stop) = IsOfNoDevice stop

-- a failed device is returned if the count of failures rose, with the name asked for last; nothing else is returned if
-- a device failed
abbrev pub BlamesBy : {A : Type 0} → Result A Stop → ℕ → ℕ → List Text → Type 0
BlamesBy (Ok x) old new asked = new ≡ old
BlamesBy (Err (stops.Fault fault)) old new asked = new ≡ old
BlamesBy (Err (stops.Device name)) old new asked = Rises old new × (last asked ≡ Some (string_bytes name))
BlamesBy (Err stops.Memory) old new asked = new ≡ old

-- what `BlamesBy` says, from what is seen of the files before and after
abbrev pub Blames : {A : Type 0} → Result A Stop → FilesSeen → FilesSeen → Type 0
Blames result old new = BlamesBy result old.failed new.failed new.names

-- the stop for a rule that is refused
abbrev pub rule_stop : RuleFault → Stop
rule_stop (Refused number place words) = stops.Fault (fault_at (Some place) number words)
rule_stop Memory = stops.Memory
