-- Lists of spots as the program holds them (kati's own).
use Rattle.std.specs.Prelude.{◌≡◌, ℕ, List, [], ◌∷◌, get_or}
use Rattle.kt_rules.specs.declared.book.few.SpotStorage.{SpotStorage}
use Rattle.kt_rules.specs.declared.book.few.SpotStorage.TheVariants.{None, One, Several}
use Rattle.kt_rules.specs.declared.book.spot.Spot.{Spot}

-- no spot, one, or those of a boxed vector
abbrev pub few_of : SpotStorage → List Spot
few_of None = []
few_of (One spot) = spot ∷ []
few_of (Several spots) = spots.value.items

-- the list at a number
abbrev pub list_at : List (List Spot) → ℕ → List Spot
list_at lists number = get_or lists number []

-- each number has the same list in both
abbrev pub SameAt : List (List Spot) → List (List Spot) → Type 0
SameAt old new = (number : ℕ) → list_at new number ≡ list_at old number

-- names, and the lists of those of their places that have one
abbrev pub Notes : Type 0
Notes = List (List ℕ) × List (List Spot)
