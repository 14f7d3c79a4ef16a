-- The steps of an evaluation, which leave a world (kati's own).
use Rattle.std.specs.Prelude.{ℕ, Option}
use Rattle.kt_text.specs.Words.{Text}
use Rattle.kt_rules.specs.declared.fault_kind.FaultKind.{FaultKind}
use Rattle.kt_rules.specs.declared.place.Place.{Place}
use Rattle.kt_rules.specs.FaultKinds.{fault_kind_number, words_with}
use Rattle.kt_eval.specs.declared.fault.Fault.{Fault}
use Rattle.kt_eval.specs.Outcome.{Gave, Stopped, StepOver}
use Rattle.kt_eval.specs.State.{World}

-- a step of an evaluation: it takes a world, and leaves one
abbrev pub Step : Type 0 → Type 0
Step A = StepOver World A

-- a fault at a place, or at none, with this number and this message
abbrev pub fault_at : Option Place → ℕ → Text → Fault
fault_at place number words = record { place = place; number = number; words = words }

-- a fault of this kind about this name, or about none if it is empty
abbrev pub fault_of : Option Place → FaultKind → Text → Fault
fault_of place kind name = fault_at place (fault_kind_number kind) (words_with kind name)

-- a step that stops at a fault of this kind about this name, at the world's current place
abbrev pub stop : {A : Type 0} → FaultKind → Text → Step A
stop kind name w = Stopped w (fault_of w.place kind name)

-- a change of the world
abbrev pub change : (World → World) → Step (Unit {0})
change f w = Gave (f w) tt
