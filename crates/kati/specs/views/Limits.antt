-- What a larger limit of levels changes (kati's own).
use Rattle.std.specs.Prelude.{◌≡◌, ℕ, ◌≤◌, List, Result, Ok, Err}
use Rattle.kati.specs.Prelude.{Text, Fault, Store, Plan, Args, Status, Devices}
use Rattle.kati.specs.AfterRun.{EndsInFull}
use Rattle.kati.specs.Meaning.{Meaning, Means}

-- these arguments with another limit of levels
abbrev pub with_limit : ℕ → Args → Args
with_limit limit args = record args { limit = limit }

-- the fault of nesting that is too deep (E08)
abbrev pub IsRunTooDeep : Result Plan Fault → Type 0
IsRunTooDeep (Ok plan) = ⊥
IsRunTooDeep (Err fault) = fault.number ≡ 8

-- a result that isn't too deep with a limit is the same with a larger one: messages, plan or fault, and names asked for
abbrev pub OnlyCuts : Type 0
OnlyCuts = (args : Args) (store : Store) (asked : List Text) (limit larger : ℕ) (m : Meaning) → limit ≤ larger
    → Means (with_limit limit args) store asked m → (IsRunTooDeep m.result → ⊥)
    → Means (with_limit larger args) store asked m

-- a run that came to such an end comes to it with a larger limit, too: with the same exit status, the same texts on the
-- outputs, and the same names asked for, that of the file to be checked among them
abbrev pub OnlyCutsRuns : Type 0
OnlyCutsRuns = (args : Args) (store : Store) (limit larger : ℕ) (status : Status) (old new : Devices) → limit ≤ larger
    → (ends : EndsInFull (with_limit limit args) store status old new) → (IsRunTooDeep ends.meaning.result → ⊥)
    → (after : EndsInFull (with_limit larger args) store status old new) × (after.meaning ≡ ends.meaning)
