-- What caused a refusal, if no file was asked for.
use Rattle.std.proofs.Common.{◌≡◌, ℕ, List, Result, Ok, Err, OnErr, OnOk}
use Rattle.kati.proofs.Common.{Text, Stop, AsksNothing, BlamesBy}
use Rattle.kt_eval.proofs.lemmas.AgreementLemmas.{last_held, no_fewer}
use Rattle.kt_eval.specs.declared.stop.Stop.TheVariants as stops

pub asks_blames : {A : Type 0} (result : Result A Stop) (old new : ℕ) (names : List Text) → new ≡ old → AsksNothing result → BlamesBy result old new names
asks_blames (Ok x) old new names same h = same
asks_blames (Err (stops.Fault fault)) old new names same h = same
asks_blames (Err (stops.Device name)) old new names same h = absurd h
asks_blames (Err stops.Memory) old new names same h = same

pub on_err : {A B : Type 0} (r : Result A B) (P : Type 0) → P → OnErr r P
on_err (Ok x) P h = tt
on_err (Err e) P h = h

pub on_err_weaker : {A B : Type 0} (r : Result A B) (P Q : Type 0) → (P → Q) → OnErr r P → OnErr r Q
on_err_weaker (Ok x) P Q more h = tt
on_err_weaker (Err e) P Q more h = more h

pub on_ok_weaker : {A B : Type 0} (r : Result A B) (P Q : Type 0) → (P → Q) → OnOk r P → OnOk r Q
on_ok_weaker (Ok x) P Q more h = more h
on_ok_weaker (Err e) P Q more h = tt

-- what one more answer says of a store that agrees
pub ruleset one_read = (last_held, no_fewer)
