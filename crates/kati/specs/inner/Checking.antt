-- The result of a comparison, as the status that it ends with (kati's own).
use Rattle.std.specs.Prelude.{◌≡◌, ◌⊎◌}
use Rattle.kati.specs.Prelude.{Plan, Status}
use Rattle.kati.specs.declared.status.Status.TheVariants as statuses

-- the status from comparing two plans
abbrev pub IsSame : Plan → Plan → Status → Type 0
IsSame read plan status = ((status ≡ statuses.Done) × (read ≡ plan)) ⊎ ((status ≡ statuses.Differs) × ¬ (read ≡ plan))
