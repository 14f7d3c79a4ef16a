-- What is wrong with the files of names, and a trouble as the code holds it (kati's own).
use Rattle.std.specs.Prelude.{List, Option, None, Some}
use Rattle.kt_graph.specs.Prelude.{Text, Entry}
use Rattle.kt_graph.specs.declared.faults.trouble.Trouble.{Trouble as HeldTrouble}
use Rattle.kt_graph.specs.declared.faults.trouble.Trouble.TheVariants as held
use Rattle.kt_graph.specs.Reach.{Trouble, no_rule, circular, reserved_name, one_file, IsDoubled, IsFirst, IsReserved}

-- what is wrong with the files of names, if anything is
abbrev pub IsFileTrouble : List Entry → List Text → List Text → Option Trouble → Type 0
IsFileTrouble rules known goals None =
    ((name : Text) → ¬ IsReserved rules known goals name) × ((name : Text) → ¬ IsDoubled rules known goals name)
IsFileTrouble rules known goals (Some reserved_name) = (name : Text) × IsReserved rules known goals name
IsFileTrouble rules known goals (Some (one_file name)) =
    ((other : Text) → ¬ IsReserved rules known goals other) × IsFirst (IsDoubled rules known goals) name
IsFileTrouble rules known goals (Some other) = ⊥

-- a trouble as the code holds it
abbrev pub trouble_view : HeldTrouble → Trouble
trouble_view (held.NoRule goal) = no_rule goal.now
trouble_view (held.Circular name) = circular name.now
trouble_view held.Reserved = reserved_name
trouble_view (held.OneFile name) = one_file name.now
