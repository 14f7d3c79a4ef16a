-- The number of edges to each vertex from remaining vertices, as the code counts them (kati's own).
use Rattle.std.specs.Prelude.{ℕ, ◌+◌, ◌-◌, ◌<◌, ◌≤◌, Bool, not, nat_eq, List, [], ◌∷◌, ◌++◌, flat_map, get_or, set}
use Rattle.std.specs.Prelude.{if◌then◌else◌, length}
use Rattle.std.specs.List.{count_by}
use Rattle.kt_graph.specs.declared.faults.edges.Edges.{Edges}
use Rattle.kt_graph.specs.inner.faults.Edges.{LeadsBack, edge_rows, next_of, work_with}

-- a vertex remains as long as there are edges to it
abbrev pub is_left : ℕ → Bool
is_left count = not (nat_eq count 0)

abbrev pub IsLeftIn : List ℕ → ℕ → Type 0
IsLeftIn counts vertex = 0 < get_or counts vertex 0

-- each vertex that leads back to itself remains
abbrev pub LeavesCircular : Edges → List ℕ → Type 0
LeavesCircular edges counts = (vertex : ℕ) → LeadsBack edges vertex → IsLeftIn counts vertex

-- one more edge to a vertex
abbrev pub with_arrival : List ℕ → ℕ → List ℕ
with_arrival counts vertex = set counts vertex (get_or counts vertex 0 + 1)

-- one edge less, and the vertex goes to the work list if that was the last one
abbrev pub without_arrival : List ℕ × List ℕ → ℕ → List ℕ × List ℕ
without_arrival state vertex =
    (set state.0 vertex (get_or state.0 vertex 0 - 1), work_with (nat_eq (get_or state.0 vertex 0) 1) state.1 vertex)

-- how often a vertex is in a list
abbrev pub arrivals_at : ℕ → List ℕ → ℕ
arrivals_at vertex others = count_by (nat_eq vertex) others

-- the vertices that the remaining ones lead to
abbrev pub next_of_left : List ℕ → List (List ℕ) → List ℕ
next_of_left [] rows = []
next_of_left (count ∷ counts) [] = []
next_of_left (count ∷ counts) (row ∷ rows) = (if is_left count then row else []) ++ next_of_left counts rows

-- the vertices that those of the work list lead to
abbrev pub next_of_all : Edges → List ℕ → List ℕ
next_of_all edges work = flat_map (next_of edges) work

-- while vertices are removed: those that lead back to themselves remain; and at each vertex at least as many edges are
-- counted as come from the remaining vertices, from the work list and from the rest that is still to be looked at
pub record AreCounted (edges : Edges) (counts work rest : List ℕ) : Type 0 where
  pub circular : LeavesCircular edges counts
  pub counted : (vertex : ℕ) → vertex < length counts
      → arrivals_at vertex (next_of_left counts (edge_rows edges)) + arrivals_at vertex (next_of_all edges work)
      + arrivals_at vertex rest ≤ get_or counts vertex 0
