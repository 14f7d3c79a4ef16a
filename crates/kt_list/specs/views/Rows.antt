-- Lists of lists, of which the last one grows (kati's own).
use Rattle.std.specs.Prelude.{List, [], ◌∷◌, ◌++◌}

-- one more item at the end of the last row; where there is none, it begins the first
abbrev pub with_item : {T : Type 0} → List (List T) → T → List (List T)
with_item [] item = (item ∷ []) ∷ []
with_item (row ∷ []) item = (row ++ item ∷ []) ∷ []
with_item (row ∷ next ∷ rows) item = row ∷ with_item (next ∷ rows) item
