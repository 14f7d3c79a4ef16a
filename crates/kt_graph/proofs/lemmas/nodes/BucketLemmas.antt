-- A row that gets one more number.
use Rattle.std.proofs.Common.{◌≡◌, ℕ, ◌+◌, ◌-◌, ◌<◌, List, [], ◌∷◌, ◌++◌, map, length, get_or, set, Vec, Global, arith}
use Rattle.kt_graph.proofs.Common.{get_or-map, map-set, with_edge}

pub rows_set : (rows : List (Vec ℕ Global)) (from to : ℕ) (new old : Vec ℕ Global) → from < length rows → old ≡ get_or rows from old
    → new.items ≡ old.items ++ to ∷ []
    → map (λ row. row.items) (set rows from new) ≡ with_edge (map (λ row. row.items) rows) (from, to)
rows_set rows from to new old within is pushed = grind (arith, map-set, get_or-map)
