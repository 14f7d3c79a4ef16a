-- What is reported if there is no graph (kati's own).
use Rattle.std.specs.Prelude.{ℕ, List, [], None}
use Rattle.kt_graph.specs.Prelude.{Text, Entry, Node}
use Rattle.kt_rules.specs.declared.fault_kind.FaultKind.{FaultKind}
use Rattle.kt_rules.specs.declared.fault_kind.FaultKind.TheVariants as kind
use Rattle.kt_rules.specs.FaultKinds.{fault_kind_number, words_with}
use Rattle.kt_graph.specs.Reach.{Trouble, no_rule, circular, reserved_name, one_file, ComesFirst, IsGraph}

-- the kind of the fault, and the name in its message, which is empty if the message has none
abbrev pub trouble_kind_and_name : Trouble → FaultKind × Text
trouble_kind_and_name (no_rule goal) = (kind.NoRule, goal)
trouble_kind_and_name (circular name) = (kind.Circular, name)
trouble_kind_and_name reserved_name = (kind.ReservedName, [])
trouble_kind_and_name (one_file name) = (kind.TwoTargetsOfOneFile, name)

-- the number of the fault for a trouble
abbrev pub trouble_number : Trouble → ℕ
trouble_number trouble = fault_kind_number (trouble_kind_and_name trouble).0

-- the message of the fault for a trouble
abbrev pub trouble_words : Trouble → Text
trouble_words trouble = let told = trouble_kind_and_name trouble in words_with told.0 told.1

-- a graph with what goals need, all of it and nothing else, and with nothing wrong
abbrev pub IsSoundGraph : List Entry → List Text → List Text → List Node → Type 0
IsSoundGraph rules known goals nodes = ComesFirst rules known goals None × IsGraph rules known goals nodes
