-- The result of `--check`: whether a Ninja file is the plan, however it is spelled (kati's own).
use Rattle.std.specs.Prelude.{◌≡◌, ◌⊎◌, List, ◌∷◌, [], ◌++◌, Option, Some, None, Result, Ok, Err}
use Rattle.kati.specs.Prelude.{Text, Fault, Store, look, Plan, ninja_read, RunFault, Status}
use Rattle.kati.specs.declared.faults.RunFault.TheVariants as faults
use Rattle.kati.specs.declared.status.Status.TheVariants as statuses

-- the text is read as the plan
abbrev pub IsReadAs : Text → Plan → Type 0
IsReadAs text plan = ninja_read text ≡ Ok plan

-- a file that doesn't exist differs, and so does one that can't be read as a plan
abbrev pub IsChecked : Plan → Option Text → Status → Type 0
IsChecked plan None status = status ≡ statuses.Differs
IsChecked plan (Some text) status =
    ((status ≡ statuses.Done) × IsReadAs text plan) ⊎ ((status ≡ statuses.Differs) × ¬ IsReadAs text plan)

-- the status of a run: from the fault, from the check, or from the plan that was written
abbrev pub HasStatus : Store → Option Text → Result Plan Fault → Status → Type 0
HasStatus store checked (Err fault) status = status ≡ statuses.Fault
HasStatus store None (Ok plan) status = status ≡ statuses.Done
HasStatus store (Some name) (Ok plan) status = IsChecked plan (look store name) status

-- the names asked for, with that of the file to be checked, which is asked for last and only if there is a plan
abbrev pub names_with_check : Option Text → Result Plan Fault → List Text → List Text
names_with_check (Some name) (Ok plan) asked = asked ++ name ∷ []
names_with_check (Some name) (Err fault) asked = asked
names_with_check None result asked = asked

-- the names asked for if the check was stopped: a device can only fail after the file's name was asked for
abbrev pub AskedAtCheck : RunFault → Text → List Text → List Text → Type 0
AskedAtCheck (faults.Read copy) name asked asked' = asked' ≡ asked ++ name ∷ []
AskedAtCheck faults.Memory name asked asked' = (asked' ≡ asked) ⊎ (asked' ≡ asked ++ name ∷ [])
AskedAtCheck faults.WriteOut name asked asked' = ⊥
AskedAtCheck faults.WriteErr name asked asked' = ⊥
