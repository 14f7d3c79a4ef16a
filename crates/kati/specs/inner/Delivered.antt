-- What a run writes to its outputs (kati's own).
use Rattle.std.specs.Prelude.{◌≡◌, [], ◌++◌, Option, Some, None, Result, Ok, Err, codes}
use Rattle.kati.specs.Prelude.{Rises, Text, fault_line, Fault, Plan, plan_text, GrowsByFront, SinkSeen, Takes, RunFault}
use Rattle.kati.specs.declared.faults.RunFault.TheVariants as faults
use Rattle.kati.specs.declared.status.Status.{Status}
use Rattle.kati.specs.declared.status.Status.TheVariants as statuses

-- the plan's text is written, or a prefix of it
abbrev pub Writes : Plan → Result Status RunFault → SinkSeen → SinkSeen → Type 0
Writes plan (Ok status) old new = (status ≡ statuses.Done) × Takes old new (plan_text plan)
Writes plan (Err faults.WriteOut) old new = GrowsByFront old new (plan_text plan)
Writes plan (Err faults.WriteErr) old new = ⊥
Writes plan (Err (faults.Read name)) old new = ⊥
Writes plan (Err faults.Memory) old new = ⊥

-- ---- the messages, and the fault if there is one

-- the fault line with its newline, if there is a fault
abbrev pub fault_view : Option Fault → Text
fault_view None = []
fault_view (Some fault) = fault_line fault ++ codes "\n"

-- a text is written to the error output
abbrev pub TellsText : Result (Unit {0}) RunFault → Text → SinkSeen → SinkSeen → Type 0
TellsText (Ok done) text err err' = Takes err err' text
TellsText (Err faults.WriteErr) text err err' = GrowsByFront err err' text
TellsText (Err faults.Memory) text err err' = err' ≡ err
TellsText (Err faults.WriteOut) text err err' = ⊥
TellsText (Err (faults.Read name)) text err err' = ⊥

abbrev pub TextBlames : Result (Unit {0}) RunFault → SinkSeen → SinkSeen → Type 0
TextBlames (Ok done) err err' = err'.failed ≡ err.failed
TextBlames (Err faults.WriteErr) err err' = Rises err.failed err'.failed
TextBlames (Err faults.Memory) err err' = Unit {0}
TextBlames (Err faults.WriteOut) err err' = Unit {0}
TextBlames (Err (faults.Read name)) err err' = Unit {0}
