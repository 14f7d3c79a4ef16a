-- The exit status of the program (kati's own).
use Rattle.kati.specs.Prelude.{ℕ, Result, Ok, Err, RunFault, Status}
use Rattle.kati.specs.declared.faults.RunFault.TheVariants as faults
use Rattle.kati.specs.declared.status.Status.TheVariants as statuses

-- the exit status of a run that came to its end: the plan was written or the checked file is equal to it, the checked
-- file differs from it, or the makefile has a fault
abbrev pub code_of : Status → ℕ
code_of statuses.Done = 0
code_of statuses.Differs = 1
code_of statuses.Fault = 2

-- the exit status of a run that didn't come to its end: because of a device, or out of memory
abbrev pub fault_code : RunFault → ℕ
fault_code (faults.Read name) = 3
fault_code faults.WriteOut = 3
fault_code faults.WriteErr = 3
fault_code faults.Memory = 4

-- the exit status for a command line that is refused
abbrev pub usage_code : ℕ
usage_code = 64

-- the exit status of the program, by how its run ended
abbrev pub exit_code : Result Status RunFault → ℕ
exit_code (Ok status) = code_of status
exit_code (Err fault) = fault_code fault
