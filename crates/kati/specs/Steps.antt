-- The steps of a run, which leave its messages and the names asked for (kati's own).
use Rattle.std.specs.Prelude.{List, ◌∷◌, [], ◌++◌, None}
use Rattle.kati.specs.Prelude.{Text, Fault, Trace, traced, Gave, StepOver, leaving, fault_of}
use Rattle.kt_rules.specs.declared.fault_kind.FaultKind.{FaultKind}

-- a fault about a name, at no line
abbrev pub fault_nowhere : FaultKind → Text → Fault
fault_nowhere kind name = fault_of None kind name

-- a file of this name is asked for
abbrev pub ask_for : Text → StepOver Trace (Unit {0})
ask_for name trace = Gave (traced trace.said (trace.asked ++ name ∷ [])) tt

-- a step that leaves messages and asks for no file
abbrev pub telling : {A : Type 0} → StepOver (List Text) A → StepOver Trace A
telling step trace = leaving (λ said. traced said trace.asked) (step trace.said)
