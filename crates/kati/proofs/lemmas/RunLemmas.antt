-- How a run ends.
use Rattle.std.proofs.Common.{arith, ◌≡◌, List, [], ◌∷◌, ◌++◌, Some, None, Result, Ok, Err, refl, IfErr, IfOk, OnOk}
use Rattle.kati.proofs.Common.{Text, Fault, Store, look, Plan, IsWritable, Takes, printed_is_read, Args, RunFault, Status, Devices, Meaning, Means}
use Rattle.kati.specs.declared.faults.RunFault.TheVariants as faults
use Rattle.kati.specs.Checking.{AskedAtCheck, HasStatus, IsChecked, names_with_check}
use Rattle.kati.specs.Exact.{IsGraphOf}
use Rattle.kati.specs.AfterRun.{HasOutput, IsUntouched, Leaves}
use Rattle.kati.specs.ErrorOutput.{err_text}
use Rattle.kati.specs.Sound.{IsSoundPlan}
use Rattle.kati.specs.inner.Delivered.{Writes}
use Rattle.kati.proofs.lemmas.meaning.ExactLemmas.{are_graphs}
use Rattle.kati.proofs.lemmas.MeaningLemmas.{meant}
use Rattle.kati.proofs.lemmas.meaning.SoundLemmas.{are_sound}

if_plan : (P : Plan → Type 0) (result : Result Plan Fault) → ((plan : Plan) → result ≡ Ok plan → P plan) → IfOk result P
if_plan P (Ok plan) each = each plan refl
if_plan P (Err fault) each = tt

pub graph_if_plan : (args : Args) (store : Store) (asked : List Text) (m : Meaning) → Means args store asked m → IfOk m.result (IsGraphOf args store asked)
graph_if_plan args store asked m means = if_plan (IsGraphOf args store asked) m.result (λ plan ok. are_graphs args store asked m plan means ok)

-- ---- with a plan

module _ (args : Args) (store : Store) (said asked : List Text) (plan : Plan) (old new : Devices)
    (means : Means args store old.files.names (meant said asked (Ok plan)))
    (told : Takes old.err new.err (err_text (meant said asked (Ok plan)))) where
  graph : IsGraphOf args store old.files.names plan
  graph = are_graphs args store old.files.names (meant said asked (Ok plan)) plan means refl

  sound : IsSoundPlan plan
  sound = are_sound args store old.files.names (meant said asked (Ok plan)) plan means refl

  ended : (status : Status) → HasStatus store args.check (Ok plan) status → new.files.names ≡ names_with_check args.check (Ok plan) asked
      → HasOutput args.check (Ok plan) old.out new.out → Leaves args store (Ok status) old new
  ended status is names written = grind (arith, meant, graph, sound)

  -- which is written
  pub written_leaves : (result : Result Status RunFault) → args.check ≡ None → IsWritable plan → new.files.names ≡ asked → Writes plan result old.out new.out
      → Leaves args store result old new
  written_leaves (Ok status) is fine names w = grind (arith, ended, printed_is_read)
  written_leaves (Err faults.WriteOut) is fine names w = grind (arith, meant, graph, sound)
  written_leaves (Err faults.WriteErr) is fine names w = absurd w
  written_leaves (Err (faults.Read name)) is fine names w = absurd w
  written_leaves (Err faults.Memory) is fine names w = absurd w

  kept_at_check : (name : Text) (fault : RunFault) → args.check ≡ Some name → AskedAtCheck fault name asked new.files.names → new.out ≡ old.out
      → IsUntouched args store fault old new
  kept_at_check name fault is names same = grind (arith, meant)

  -- with which a file is compared
  pub checked_leaves : (name : Text) (result : Result Status RunFault) → args.check ≡ Some name → IfOk result (IsChecked plan (look store name))
      → OnOk result (new.files.names ≡ asked ++ name ∷ []) → IfErr result (λ fault. AskedAtCheck fault name asked new.files.names) → new.out ≡ old.out
      → Leaves args store result old new
  checked_leaves name (Ok status) is checks names stopped same = grind (arith, ended)
  checked_leaves name (Err (faults.Read copy)) is checks names stopped same = kept_at_check name (faults.Read copy) is stopped same
  checked_leaves name (Err faults.Memory) is checks names stopped same = kept_at_check name faults.Memory is stopped same
  checked_leaves name (Err faults.WriteOut) is checks names stopped same = absurd stopped
  checked_leaves name (Err faults.WriteErr) is checks names stopped same = absurd stopped
