-- What a translation returns, and which device a fault of it blames (kati's own).
use Rattle.std.specs.Prelude.{◌≡◌, List, Some, Result, Ok, Err}
use Rattle.kati.specs.Prelude.{string_bytes, Rises, Text, Store, Args, RunFault}
use Rattle.kt_eval.specs.files.Files.{FilesSeen}
use Rattle.kt_list.specs.Prefixes.{last}
use Rattle.kati.specs.declared.faults.RunFault.TheVariants as faults
use Rattle.kati.specs.declared.outcome.Outcome.{Outcome}
use Rattle.kati.specs.Meaning.{Means}

-- what caused a fault of a step that only reads: the failures of the files rose, or memory ran out and no file failed
abbrev pub ReadBlames : {A : Type 0} → Result A RunFault → FilesSeen → FilesSeen → Type 0
ReadBlames (Ok x) old new = new.failed ≡ old.failed
ReadBlames (Err (faults.Read name)) old new = Rises old.failed new.failed × (last new.names ≡ Some (string_bytes name))
ReadBlames (Err faults.Memory) old new = new.failed ≡ old.failed
ReadBlames (Err faults.WriteOut) old new = ⊥
ReadBlames (Err faults.WriteErr) old new = ⊥

-- a translation has the run's meaning, and has asked for its names
abbrev pub Translates : Args → Store → Outcome → List Text → List Text → Type 0
Translates args store outcome asked asked' =
    Means args store asked (record { messages = outcome.messages; result = outcome.result; asked = asked' })
