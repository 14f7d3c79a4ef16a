-- The names that are asked for up to the end of a step, or until it was stopped.
use Rattle.std.proofs.Common.{arith, ◌≡◌, List, [], Result, Ok, Err, sym, subst}
use Rattle.kati.proofs.Common.{Text, Stop, Store, IsPrefix, ComesBefore, Makefile, Trace, predefined, read_of, traced, Gives, IfCut, StepEnd, Gave, left_of, then_do, front_same, Args, wanted_by}
use Rattle.kt_eval.specs.declared.stop.Stop.TheVariants as stops
use Rattle.kt_eval.proofs.lemmas.reading.MachineLemmas.{before_reading}
use Rattle.kati.specs.Meaning.{names_asked}
use Rattle.kati.specs.Listing.{listed}
use Rattle.kati.specs.Makefile.{command_line_table, makefile_names, makefile_read}
use Rattle.kati.specs.Steps.{telling}
use Rattle.kati.proofs.lemmas.OutcomeLemmas.{asked_then, telling_asks}

-- ---- the makefile

-- a reading that was stopped or came to its end
pub reads_asked : {A C : Type 0} (see : A → C) (result : Result A Stop) (trace : Trace) (end : StepEnd Trace C) → Gives see result trace end
    → IfCut result (ComesBefore trace (left_of end)) → IsPrefix trace.asked (left_of end).asked
reads_asked {C} see (Ok x) trace end is cut = subst (λ (o : StepEnd Trace C). IsPrefix trace.asked (left_of o).asked) (sym is) (front_same trace.asked)
reads_asked {C} see (Err (stops.Fault fault)) trace end is cut = grind (arith, front_same)
reads_asked see (Err (stops.Device name)) trace end is cut = cut.1
reads_asked see (Err stops.Memory) trace end is cut = cut.1

-- the names asked for before the makefile come first
pub before_makefile : (args : Args) (store : Store) (trace : Trace) → IsPrefix trace.asked (left_of (makefile_read args store trace)).asked
before_makefile args store trace =
    (before_reading store (makefile_names args.makefile) args.limit (read_of (predefined (command_line_table args.macros)) []) trace).1

-- ---- after the makefile no name is asked for

goals_front : (args : Args) (list : Text) (read : Makefile) (trace : Trace) → IsPrefix trace.asked (left_of (telling (wanted_by args list read) trace)).asked
goals_front args list read trace = grind (arith, telling_asks, front_same)

makefile_stops : (args : Args) (store : Store) (list : Text) (trace : Trace) (names : List Text)
    → IsPrefix names (left_of (makefile_read args store trace)).asked
    → IsPrefix names (left_of (then_do (makefile_read args store trace) (λ read. telling (wanted_by args list read)))).asked
makefile_stops args store list trace names h = grind (arith, asked_then, goals_front)

-- if the list was stopped
pub list_stops : (args : Args) (store : Store) (asked names : List Text) → IsPrefix names (left_of (listed store args.files (traced [] asked))).asked
    → IsPrefix names (names_asked args store asked)
list_stops args store asked names h = grind (arith, asked_then, makefile_stops, before_makefile)

-- if the list was read, and the makefile came to an end or was stopped
pub list_read : (args : Args) (store : Store) (asked middle names : List Text) (list : Text)
    → listed store args.files (traced [] asked) ≡ Gave (traced [] middle) list
    → IsPrefix names (left_of (makefile_read args store (traced [] middle))).asked → IsPrefix names (names_asked args store asked)
list_read args store asked middle names list is h = grind (arith, makefile_stops)
