-- What a read of a file leaves (kati's own).
use Rattle.std.specs.Prelude.{◌≡◌, ◌≤◌, ℕ, List, [], ◌∷◌, ◌++◌, Result, Ok, Err}
use Rattle.kt_list.specs.Counters.{Rises}
use Rattle.kt_eval.specs.declared.files.FileFault.{FileFault}
use Rattle.kt_eval.specs.declared.files.FileFault.TheVariants.{Device, Memory}
use Rattle.kt_eval.specs.files.Files.{Store, Answer, differing, FilesSeen}

-- Answers are only added to: from no store fewer of them differ. By a count it follows through calls and loops as an
-- order on numbers does.
abbrev pub AnswersGrow : List Answer → List Answer → Type 0
AnswersGrow old new = (store : Store) → differing store old ≤ differing store new

-- the name was asked for, unless the read ran out of memory
abbrev pub AskedAfter : {A : Type 0} → Result A FileFault → FilesSeen → FilesSeen → List ℕ → Type 0
AskedAfter (Err Memory) old new name = new.names ≡ old.names
AskedAfter (Err Device) old new name = new.names ≡ old.names ++ name ∷ []
AskedAfter (Ok _) old new name = new.names ≡ old.names ++ name ∷ []

-- a failed device raises the count of failures, and nothing else does
abbrev pub CountedAfter : {A : Type 0} → Result A FileFault → FilesSeen → FilesSeen → Type 0
CountedAfter (Err Memory) old new = new.failed ≡ old.failed
CountedAfter (Err Device) old new = Rises old.failed new.failed
CountedAfter (Ok _) old new = new.failed ≡ old.failed

abbrev pub IsDevice : FileFault → Type 0
IsDevice fault = fault ≡ Device

abbrev pub IsMemory : FileFault → Type 0
IsMemory fault = fault ≡ Memory
