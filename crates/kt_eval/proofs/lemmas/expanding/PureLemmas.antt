-- A text expanded as a recipe is, to its end.
use Rattle.std.proofs.Common.{◌≡◌, ℕ, List, [], Option, Result, Ok, Err, Vec, Global, refl, sym, arith, false}
use Rattle.kt_eval.proofs.Common.{Text, Frame, Stop, Store, IsPrefix, Macros, World, frozen_world, AsksNothing, StepEnd, Gave, Stopped, Gives, IfCut, leaving, left_of, told, GoesOn, BlamesBy, expanded, evaluator}
use Rattle.kt_rules.specs.declared.place.Place.{Place}
use Rattle.kt_eval.specs.declared.stop.Stop.TheVariants as stops
use Rattle.kt_eval.specs.views.expanding.Pure.{Says}
use Rattle.kt_eval.specs.expanding.Pure.{expanded_pure}
use Rattle.kt_eval.proofs.lemmas.TrailLemmas.{front_of}

in_the_end : (w : World) (outcome : StepEnd World Text) → GoesOn w (left_of outcome) → IsPrefix w.said (left_of (leaving (λ w. w.said) outcome))
in_the_end w (Gave v x) h = front_of w.said v.said (h told)
in_the_end w (Stopped v x) h = front_of w.said v.said (h told)

-- the result of an expansion is how it ends
gives_so : (result : Result (Vec ℕ Global) Stop) (w : World) (outcome : StepEnd World Text) → Gives (λ v. v.items) result w outcome
    → Gives (λ v. v.items) result w.said (leaving (λ w. w.said) outcome)
gives_so (Ok x) w outcome h = rw h refl
gives_so (Err (stops.Fault fault)) w outcome h = rw h refl
gives_so (Err (stops.Device name)) w outcome h = tt
gives_so (Err stops.Memory) w outcome h = tt

cut_so : (result : Result (Vec ℕ Global) Stop) (w : World) (outcome : StepEnd World Text) → IfCut result (GoesOn w (left_of outcome))
    → IfCut result (IsPrefix w.said (left_of (leaving (λ w. w.said) outcome)))
cut_so (Ok x) w outcome h = tt
cut_so (Err (stops.Fault fault)) w outcome h = tt
cut_so (Err (stops.Device name)) w outcome h = in_the_end w outcome h
cut_so (Err stops.Memory) w outcome h = in_the_end w outcome h

-- no read failed
none_failed : (result : Result (Vec ℕ Global) Stop) (asked : List Text) → BlamesBy result 0 0 asked → AsksNothing result
none_failed (Ok x) asked b = tt
none_failed (Err (stops.Fault fault)) asked b = tt
none_failed (Err (stops.Device name)) asked b = absurd (omega (arith, b.0))
none_failed (Err stops.Memory) asked b = tt

-- a prefix with other names
pub front_by : (old new old' new' : List Text) → old ≡ old' → new ≡ new' → IsPrefix old new → IsPrefix old' new'
front_by old new old' new' e f h = rw (sym e, sym f) h

-- what is said of an expansion, from the state at its end
pub says_when : (limit : ℕ) (text : Text) (table : Macros) (automatic : Store) (place : Option Place) (before : List Text) (frames : List Frame)
    (result : Result (Vec ℕ Global) Stop) (w : World) (failed : ℕ) (before' said' : List Text)
    → frames ≡ [] → before ≡ before' → w.said ≡ said' → failed ≡ 0 → BlamesBy result 0 failed w.asked
    → GoesOn (record (frozen_world table automatic place before) { frames = frames }) w
    → Gives (λ v. v.items) result w (expanded (evaluator false [] limit) text (record (frozen_world table automatic place before) { frames = frames }))
    → IfCut result (GoesOn w (left_of (expanded (evaluator false [] limit) text (record (frozen_world table automatic place before) { frames = frames }))))
    → Says (λ v. v.items) (expanded_pure table automatic place limit text) result before' said'
says_when limit text table automatic place before frames result w failed before' said' empty first last none b kept gives cut =
    rw (sym first, sym last) (record {
      gives = gives_so result w (expanded (evaluator false [] limit) text (frozen_world table automatic place before)) (rw empty at gives);
      appends = front_of before w.said (kept told);
      cut = cut_so result w (expanded (evaluator false [] limit) text (frozen_world table automatic place before)) (rw empty at cut);
      asks_nothing = none_failed result w.asked (rw none at b);
    })
