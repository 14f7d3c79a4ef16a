-- What a machine holds between two readings, and what a call of it returns (kati's own).
use Rattle.std.specs.Prelude.{◌≡◌, ℕ, string_bytes, List, [], Option, Some, None, Result, Ok, Err}
use Rattle.kt_eval.specs.Prelude.{Text, Entry, Store}
use Rattle.kt_eval.specs.views.Prelude.{Stop, IsPrefix}
use Rattle.kt_eval.specs.declared.stop.Stop.TheVariants as stops
use Rattle.kt_eval.specs.macros.Macros.{Macros}
use Rattle.kt_eval.specs.Outcome.{StepEnd}
use Rattle.kt_eval.specs.reading.Machine.{predefined, Trace, traced, Makefile, read_of, reading}

-- the limit of levels, macros, rules and messages so far, and why nothing more is read, if something was refused
pub record Machine : Type 0 where
  pub limit : ℕ
  pub table : Macros
  pub book : List Entry
  pub said : List Text
  pub refusal : Option Stop

-- nothing is read yet
abbrev pub new_machine : ℕ → Macros → Machine
new_machine limit table = record { limit = limit; table = predefined table; book = []; said = []; refusal = None }

-- each list of the first is a prefix of the second's
abbrev pub ComesBefore : Trace → Trace → Type 0
ComesBefore old new = IsPrefix old.said new.said × IsPrefix old.asked new.asked

-- the macros and rules that a machine holds
abbrev pub read_by : Machine → Makefile
read_by held = read_of held.table held.book

-- what a run has shown, from what a machine holds and the names asked for
abbrev pub traced_by : Machine → List Text → Trace
traced_by held asked = traced held.said asked

-- the reading of the first of these files that exists, from what a machine holds
abbrev pub reading_by : Store → List Text → Machine → List Text → StepEnd Trace Makefile
reading_by store names held asked = reading store names held.limit (read_by held) (traced_by held asked)

abbrev pub IsDeviceOf : Text → Stop → Type 0
IsDeviceOf name (stops.Fault fault) = ⊥
IsDeviceOf name (stops.Device other) = string_bytes other ≡ name
IsDeviceOf name stops.Memory = ⊥

-- a copy of the refusal, or out of memory if it can't be copied
abbrev pub IsCopy : Stop → Stop → Type 0
IsCopy stops.Memory stop = Unit {0}
IsCopy (stops.Fault fault) stop = stop ≡ stops.Fault fault
IsCopy (stops.Device name) stop = IsDeviceOf (string_bytes name) stop

-- each further call after a refusal
abbrev pub Repeats : Result (Unit {0}) Stop → Stop → Type 0
Repeats (Ok x) stop = ⊥
Repeats (Err copied) stop = IsCopy copied stop

-- a refusal is kept, and nothing else is
abbrev pub Remembers : Result (Unit {0}) Stop → Option Stop → Type 0
Remembers (Ok x) kept = kept ≡ None
Remembers (Err stop) kept = (copied : Stop) × (kept ≡ Some copied) × IsCopy copied stop
