-- What a step leaves, and what comes after it.
use Rattle.std.proofs.Common.{arith, ◌≡◌, List, [], Result, Ok, Err, refl}
use Rattle.kati.proofs.Common.{Text, Stop, Store, IsPrefix, Makefile, Trace, traced, Gives, StepEnd, Gave, Stopped, StepOver, left_of, then_do, front_next, Args, WantedGoals, prepared, wanted_by}
use Rattle.kt_eval.specs.declared.stop.Stop.TheVariants as stops
use Rattle.kati.specs.Listing.{listed}
use Rattle.kati.specs.Makefile.{makefile_read}
use Rattle.kati.specs.Steps.{telling}

pub telling_asks : {A : Type 0} (trace : Trace) (step : StepOver (List Text) A) → (left_of (telling step trace)).asked ≡ trace.asked
telling_asks {A} trace step = grind arith

-- names that are asked for before the end of a step are before those of a longer step
pub asked_then : {A B : Type 0} (names : List Text) (first : StepEnd Trace A) (next : A → StepOver Trace B)
    → ((x : A) (trace : Trace) → IsPrefix trace.asked (left_of (next x trace)).asked) → IsPrefix names (left_of first).asked
    → IsPrefix names (left_of (then_do first next)).asked
asked_then names (Gave trace x) next more h = front_next names trace.asked (left_of (next x trace)).asked h (more x trace)
asked_then names (Stopped trace fault) next more h = h

-- the goals are chosen after the list and the makefile are read
pub chosen_after : {A : Type 0} (see : A → WantedGoals) (args : Args) (store : Store) (asked middle names said heard : List Text) (list : Text) (read : Makefile)
    (result : Result A Stop) → listed store args.files (traced [] asked) ≡ Gave (traced [] middle) list
    → makefile_read args store (traced [] middle) ≡ Gave (traced said names) read → Gives see result heard (wanted_by args list read said)
    → Gives see result (traced heard names) (prepared args store (traced [] asked))
chosen_after see args store asked middle names said heard list read (Ok x) is also h = rw is (rw also (rw h refl))
chosen_after see args store asked middle names said heard list read (Err (stops.Fault fault)) is also h = rw is (rw also (rw h refl))
chosen_after see args store asked middle names said heard list read (Err (stops.Device name)) is also h = tt
chosen_after see args store asked middle names said heard list read (Err stops.Memory) is also h = tt
