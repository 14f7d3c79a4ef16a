-- A list of one name, in a form.
use Rattle.std.proofs.Common.{arith, ◌≡◌, [], ◌∷◌}
use Rattle.kt_text.specs.Words.{Text, list_text}

pub list_of_one : (name : Text) → name ≡ list_text (name ∷ [])
unfolding list_text
list_of_one name = grind arith
