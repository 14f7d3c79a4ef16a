-- How a call reports what is wrong (kati's own).
use Rattle.std.specs.Prelude.{◌≡◌, List, Some}
use Rattle.kt_graph.specs.Prelude.{Text, Entry}
use Rattle.kt_graph.specs.declared.faults.fault.GraphFault.{GraphFault}
use Rattle.kt_graph.specs.declared.faults.fault.GraphFault.TheVariants.{Memory, Refused}
use Rattle.kt_graph.specs.Reach.{Trouble, ComesFirst}
use Rattle.kt_graph.specs.faults.Faults.{trouble_number, trouble_words}

-- the call returns exactly this fault, or runs out of memory, which is always allowed
abbrev pub ReportsTrouble : GraphFault → Trouble → Type 0
ReportsTrouble Memory trouble = Unit {0}
ReportsTrouble (Refused number words) trouble = (number ≡ trouble_number trouble) × (words ≡ trouble_words trouble)

-- the first trouble is reported
abbrev pub ReportsFirst : List Entry → List Text → List Text → GraphFault → Type 0
ReportsFirst rules known goals Memory = Unit {0}
ReportsFirst rules known goals (Refused number words) =
    (trouble : Trouble) × ComesFirst rules known goals (Some trouble) × ReportsTrouble (Refused number words) trouble
