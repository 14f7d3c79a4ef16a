-- The list of files that exist, which `--files` names (kati's own).
use Rattle.std.specs.Prelude.{ℕ, [], length, Bool, true, false, nat_lt, Option, Some, None}
use Rattle.kati.specs.Prelude.{Text, FileTooLarge, NoFile, NulByte, Fault, fault_of, Store, look, Trace}
use Rattle.kt_text.specs.Lines.{nul_line}
use Rattle.kt_eval.specs.reading.Reading.{largest_file}
use Rattle.kt_eval.specs.Outcome.{StepOver, ◌>>◌, done, stop_at}
use Rattle.kati.specs.Steps.{ask_for, fault_nowhere}

-- the fault for a NUL in the list of files, at the line of the NUL
abbrev pub nul_fault : Text → ℕ → Fault
nul_fault name line = fault_of (Some (record { file = name; line = line })) NulByte []

-- the text of the list, unless it has a NUL, given the line of the first one
abbrev pub if_without_nul : Text → Text → Option ℕ → StepOver Trace Text
if_without_nul name text (Some line) = stop_at (nul_fault name line)
if_without_nul name text None = done text

-- the text of the list, unless it is too large
abbrev pub if_small : Text → Text → Bool → StepOver Trace Text
if_small name text true = stop_at (fault_nowhere FileTooLarge name)
if_small name text false = if_without_nul name text (nul_line text)

-- the text of the list, if the file exists
abbrev pub list_in : Text → Option Text → StepOver Trace Text
list_in name None = stop_at (fault_nowhere NoFile name)
list_in name (Some text) = if_small name text (nat_lt largest_file (length text))

-- the text of the list, which is empty if no list is asked for
abbrev pub listed : Store → Option Text → StepOver Trace Text
listed store None = done []
listed store (Some name) = do
  ask_for name
  list_in name (look store name)
