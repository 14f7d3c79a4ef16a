-- Rows of numbers, such as the vertices that each vertex leads to (kati's own).
use Rattle.std.specs.Prelude.{ℕ, List, [], ◌∷◌, ◌++◌, fold, get_or, map, replicate, set}
use Rattle.kt_graph.specs.inner.Prelude.{Vec}
use Rattle.std.specs.declared.alloc.Global.{Global}

-- the rows of a vector of vectors
abbrev pub rows_held : List (Vec ℕ Global) → List (List ℕ)
rows_held rows = map (λ row. row.items) rows

-- rows with one more edge, and with several
abbrev pub with_edge : List (List ℕ) → ℕ × ℕ → List (List ℕ)
with_edge rows edge = set rows edge.0 (get_or rows edge.0 [] ++ edge.1 ∷ [])

abbrev pub with_edges : List (List ℕ) → List (ℕ × ℕ) → List (List ℕ)
with_edges rows edges = fold with_edge rows edges

-- a given number of vertices that lead nowhere
abbrev pub bare_rows : ℕ → List (List ℕ)
bare_rows count = replicate count []

abbrev pub edges_to : ℕ → List ℕ → List (ℕ × ℕ)
edges_to to froms = map (λ from. (from, to)) froms

abbrev pub edges_from : ℕ → List ℕ → List (ℕ × ℕ)
edges_from from numbers = map (λ to. (from, to)) numbers
