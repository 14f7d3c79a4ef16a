-- What remains of blocks after their last line.
use Rattle.std.proofs.Common.{◌≡◌, ℕ, zero, suc, List, [], ◌∷◌, None, drop, refl, sym}
use Rattle.kt_eval.proofs.Common.{slice_get, none, levels_from, left_at}
use Rattle.std.proofs.lemmas.Option.{none-some}
use Rattle.kt_syntax.specs.declared.step.BlockStep.{BlockStep as Found}

nothing_left : (steps : List Found) (place : ℕ) → drop place steps ≡ [] → left_at steps place ≡ none
unfolding left_at levels_from
nothing_left steps place h = rw h refl

past : (steps : List Found) (place : ℕ) → slice_get steps place ≡ None → drop place steps ≡ []
past [] zero h = refl
past [] (suc place) h = refl
past (first ∷ steps) zero h = absurd (none-some first (sym h))
past (first ∷ steps) (suc place) h = past steps place h

pub none_left_past : (steps : List Found) (place : ℕ) → slice_get steps place ≡ None → left_at steps place ≡ none
none_left_past steps place h = nothing_left steps place (past steps place h)
