-- A reading from its first line to its end.
use Rattle.std.proofs.Common.{arith, ◌≡◌, ℕ, List, [], Result, Ok, Err, refl, true}
use Rattle.kt_eval.proofs.Common.{Text, Entry, Stop, Store, Macros, World, Frame, StepEnd, Gave, Stopped, Gives, IfCut, leaving, left_of, then_do, told, asked_for, GoesOn, evaluator, read_first}
use Rattle.kt_eval.specs.declared.stop.Stop.TheVariants as stops
use Rattle.kt_eval.specs.views.reading.Machine.{ComesBefore}
use Rattle.kt_eval.specs.reading.Machine.{Makefile, Trace, first_world, read_of, reading, trace_of, traced}
use Rattle.kt_eval.proofs.lemmas.TrailLemmas.{front_of}
use Rattle.kt_eval.proofs.Steps.{read_first_goes}

both_fronts : (v w : World) → GoesOn v w → ComesBefore (trace_of v) (trace_of w)
both_fronts v w g = (front_of v.said w.said (g told), front_of v.asked w.asked (g asked_for))

-- the end of a reading, from that of its lines
abbrev pub ended : StepEnd World (Unit {0}) → StepEnd Trace Makefile
ended outcome = leaving trace_of (then_do outcome (λ _ w. Gave w (read_of w.table w.book)))

-- the result of a reading is how it ends
ends_so : (result : Result (Unit {0}) Stop) (w : World) (outcome : StepEnd World (Unit {0})) → Gives (λ u. u) result w outcome
    → Gives (λ _. read_of w.table w.book) result (trace_of w) (ended outcome)
ends_so (Ok x) w outcome h = rw h refl
ends_so (Err (stops.Fault fault)) w outcome h = rw h refl
ends_so (Err (stops.Device name)) w outcome h = tt
ends_so (Err stops.Memory) w outcome h = tt

in_the_end : (w : World) (outcome : StepEnd World (Unit {0})) → GoesOn w (left_of outcome) → ComesBefore (trace_of w) (left_of (ended outcome))
in_the_end w (Gave v x) h = both_fronts w v h
in_the_end w (Stopped v x) h = both_fronts w v h

cut_so : (result : Result (Unit {0}) Stop) (w : World) (outcome : StepEnd World (Unit {0})) → IfCut result (GoesOn w (left_of outcome))
    → IfCut result (ComesBefore (trace_of w) (left_of (ended outcome)))
cut_so (Ok x) w outcome h = tt
cut_so (Err (stops.Fault fault)) w outcome h = tt
cut_so (Err (stops.Device name)) w outcome h = in_the_end w outcome h
cut_so (Err stops.Memory) w outcome h = in_the_end w outcome h

module _ (names : List Text) (limit : ℕ) (before : Makefile) (trace : Trace) (frames : List Frame) (result : Result (Unit {0}) Stop)
    (w : World) (table : Macros) (book : List Entry) (said asked : List Text) (empty : frames ≡ []) (t : w.table ≡ table) (b : w.book ≡ book)
    (s : w.said ≡ said) (a : w.asked ≡ asked) where
  -- a reading, from the state at its end
  pub reads_when : (store : Store)
      → Gives (λ u. u) result w (read_first store (evaluator true store limit) names (record (first_world before trace) { frames = frames }))
      → Gives (λ _. read_of table book) result (traced said asked) (reading store names limit before trace)
  reads_when store h = grind (arith, ends_so)

  pub cut_when : (store : Store)
      → IfCut result (GoesOn w (left_of (read_first store (evaluator true store limit) names (record (first_world before trace) { frames = frames }))))
      → IfCut result (ComesBefore (traced said asked) (left_of (reading store names limit before trace)))
  cut_when store h = grind (arith, cut_so)

-- before the first line the messages and the names are a prefix of those of the reading
pub before_reading : (store : Store) (names : List Text) (limit : ℕ) (before : Makefile) (trace : Trace)
    → ComesBefore trace (left_of (reading store names limit before trace))
before_reading store names limit before trace = in_the_end (first_world before trace)
    (read_first store (evaluator true store limit) names (first_world before trace)) (read_first_goes true store limit names (first_world before trace))
