-- Lists in one vector, one after another, by the places where they end.
use Rattle.std.specs.Prelude.{◌≡◌, ℕ, ◌≤◌, List, [], ◌∷◌}
use Rattle.std.specs.List.{slice_range}

-- the rows from a place on: each begins where the one before it ends
abbrev pub rows_from : {T : Type 0} → List T → ℕ → List ℕ → List (List T)
rows_from items start [] = []
rows_from items start (end ∷ ends) = slice_range items start end ∷ rows_from items end ends

-- the rows of a vector
abbrev pub rows_of : {T : Type 0} → List T → List ℕ → List (List T)
rows_of items ends = rows_from items 0 ends

-- the ends rise from a place on, and the last one is the end of the vector
abbrev pub AreEnds : ℕ → List ℕ → ℕ → Type 0
AreEnds start [] size = start ≡ size
AreEnds start (end ∷ ends) size = (start ≤ end) × AreEnds end ends size
