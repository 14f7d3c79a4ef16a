-- What a text holds where the appending of more was cut off.
use Rattle.std.proofs.Common.{arith, ◌≡◌, [], ◌++◌, refl, sym, ap, ◌∙◌, append_assoc, append-nil}
use Rattle.kt_text.specs.views.Begun.{HasBegun}
use Rattle.kt_text.specs.Words.{Text}

-- nothing more
pub begun : (whole old new : Text) → new ≡ old → HasBegun whole old new
begun whole old new same = ([], whole, same ∙ sym (append-nil old), refl)

-- a prefix of the first part
pub begun_front : (part back old new : Text) → HasBegun part old new → HasBegun (part ++ back) old new
begun_front part back old new cut = (
  cut.0,
  cut.1 ++ back,
  cut.2,
  sym (append_assoc cut.0 cut.1 back) ∙ ap (λ t. t ++ back) cut.3,
)

-- the first part, and a prefix of what comes after it
pub begun_after : (front part old middle new : Text) → middle ≡ old ++ front → HasBegun part middle new → HasBegun (front ++ part) old new
begun_after front part old middle new grown cut = grind (arith, append_assoc)
