-- What a step returns that stops (kati's own).
use Rattle.std.specs.Prelude.{◌≡◌, List, None, Some}
use Rattle.kati.specs.Prelude.{Text, Entry, trouble_number, trouble_words, ComesFirst, Trouble, Fault, fault_at}
use Rattle.kt_graph.specs.declared.faults.fault.GraphFault.{GraphFault}
use Rattle.kt_graph.specs.declared.faults.fault.GraphFault.TheVariants as graphs
use Rattle.kt_eval.specs.declared.stop.Stop.{Stop}
use Rattle.kt_eval.specs.declared.stop.Stop.TheVariants as stops

-- this fault, or out of memory while its message is made
abbrev pub IsFaultOf : Fault → Stop → Type 0
IsFaultOf expected (stops.Fault fault) = fault ≡ expected
IsFaultOf expected (stops.Device name) = ⊥
IsFaultOf expected stops.Memory = Unit {0}

-- a fault of the graph, at no line
abbrev pub IsStopOf : GraphFault → Stop → Type 0
IsStopOf graphs.Memory stop = stop ≡ stops.Memory
IsStopOf (graphs.Refused number words) stop = stop ≡ stops.Fault (fault_at None number words)

-- the first thing that is wrong with a graph, as a fault at no line, or out of memory
abbrev pub IsFirstStop : List Entry → List Text → List Text → Stop → Type 0
IsFirstStop rules known goals (stops.Fault fault) =
    (trouble : Trouble) × ComesFirst rules known goals (Some trouble)
    × (fault ≡ fault_at None (trouble_number trouble) (trouble_words trouble))
IsFirstStop rules known goals (stops.Device name) = ⊥
IsFirstStop rules known goals stops.Memory = Unit {0}
