-- Vertices and their edges, as the code finds cycles in them (kati's own). The vertex of a name is its number; the
-- makings of several names come after the names.
use Rattle.std.specs.Prelude.{◌≡◌, ◌↔◌, ℕ, suc, ◌+◌, ◌<◌, true, false, Bool, ◌⊎◌, List, [], ◌∷◌, ◌++◌, length, get_or}
use Rattle.std.specs.Prelude.{take, flat_map, map, All, IfSome, if◌then◌else◌, Option, Some, None}
use Rattle.kt_graph.specs.inner.Prelude.{slice_get, count_by, range_with_len, option_to_list}
use Rattle.kt_graph.specs.Prelude.{Contains}
use Rattle.kt_graph.specs.inner.nodes.Buckets.{bare_rows, edges_from, rows_held, with_edges}
use Rattle.kt_graph.specs.inner.nodes.Stored.{HaveOneMaking, StoredNode, needed_numbers, stored_at}
use Rattle.kt_graph.specs.declared.faults.edges.Edges.{Edges}
use Rattle.kt_graph.specs.Reach.{Reaches}

-- the number at a place, as a list
abbrev pub listed_number : List ℕ → ℕ → List ℕ
listed_number numbers place = option_to_list (slice_get numbers place)

-- where a name leads: to its making, if it has one, or else to what it needs
abbrev pub row_by : List ℕ → StoredNode → Option ℕ → List ℕ
row_by makings node None = needed_numbers node
row_by makings node (Some making) = listed_number makings making

abbrev pub edge_row : List ℕ → StoredNode → List ℕ
edge_row makings node = row_by makings node node.made_with

-- where each vertex leads
abbrev pub edge_rows : Edges → List (List ℕ)
edge_rows edges = map (edge_row edges.makings.items) edges.nodes.now ++ rows_held edges.rows.items

-- the number of vertices
abbrev pub vertex_count : Edges → ℕ
vertex_count edges = length edges.nodes.now + length edges.rows.items

-- where one vertex leads
abbrev pub next_of : Edges → ℕ → List ℕ
next_of edges vertex = get_or (edge_rows edges) vertex []

abbrev pub HasNext : Edges → ℕ → ℕ → Type 0
HasNext edges from to = Contains (next_of edges from) to

-- a vertex leads to another in one step or more
pub record LeadsOn (edges : Edges) (from to : ℕ) : Type 0 where
  pub next : ℕ
  pub step : HasNext edges from next
  pub path : Reaches (HasNext edges) next to

-- a vertex leads to itself in one step or more
abbrev pub LeadsBack : Edges → ℕ → Type 0
LeadsBack edges vertex = LeadsOn edges vertex vertex

-- edges lead to vertices
abbrev pub LeadToVertices : Edges → Type 0
LeadToVertices edges = (from to : ℕ) → HasNext edges from to → to < vertex_count edges

-- the edges of the first, each of them reversed
abbrev pub AreReversed : Edges → Edges → Type 0
AreReversed edges reversed = (from to : ℕ) → HasNext reversed from to ↔ HasNext edges to from

-- ---- the edges of nodes

-- a name leads to its making, if it has one, or else to what it needs
abbrev pub LeadsTo : ℕ → StoredNode → Option ℕ → ℕ → Type 0
LeadsTo names node None to = Contains (needed_numbers node) to
LeadsTo names node (Some making) to = to ≡ names + making

-- the edges from a making, by its number, that one of its nodes adds
abbrev pub making_edges : Option ℕ → List ℕ → List (ℕ × ℕ)
making_edges None numbers = []
making_edges (Some making) numbers = edges_from making numbers

abbrev pub makings_edges : List StoredNode → List (ℕ × ℕ)
makings_edges nodes = flat_map (λ node. making_edges node.made_with (needed_numbers node)) nodes

-- the rows of makings have just these edges, maybe in another order and more than once
pub record HaveEdges (count : ℕ) (expected : List (ℕ × ℕ)) (rows : List (List ℕ)) : Type 0 where
  pub edges : List (ℕ × ℕ)
  pub are : rows ≡ with_edges (bare_rows count) edges
  pub same : (edge : ℕ × ℕ) → Contains edges edge ↔ Contains expected edge

-- a node has the making and the inputs of the one before
pub record IsRepeated (nodes : List StoredNode) (number : ℕ) : Type 0 where
  pub before : ℕ
  pub next : number ≡ suc before
  pub alike : HaveOneMaking (stored_at nodes before) (stored_at nodes number)

-- after the edges that the first nodes add, those of one more node stand there, too
abbrev pub AddsNode : List StoredNode → ℕ → List (List ℕ) → List (List ℕ) → Type 0
AddsNode nodes number old new =
    (count : ℕ) → number < length nodes → HaveEdges count (makings_edges (take number nodes)) old
    → HaveEdges count (makings_edges (take (number + 1) nodes)) new

-- the numbers of makings, which come after the names
abbrev pub numbers_after : ℕ → ℕ → List ℕ
numbers_after names count = map (λ making. names + making) (range_with_len 0 count)

-- an edge from a name, or from a making to what one of its names needs
pub record IsEdge (nodes : List StoredNode) (from to : ℕ) : Type 0 where
  pub number : ℕ
  pub node : StoredNode
  pub place : slice_get nodes number ≡ Some node
  pub way :
      ((from ≡ number) × LeadsTo (length nodes) node node.made_with to)
      ⊎ ((making : ℕ) × (node.made_with ≡ Some making) × (from ≡ length nodes + making)
      × Contains (needed_numbers node) to)

-- the makings of nodes have numbers below a count
abbrev pub AreMadeBelow : ℕ → List StoredNode → Type 0
AreMadeBelow count nodes = All (λ node. IfSome node.made_with (λ making. making < count)) nodes

-- the inputs of nodes are numbers of nodes
abbrev pub AreNeededBelow : List StoredNode → Type 0
AreNeededBelow nodes = All (λ node. All (λ number. number < length nodes) (needed_numbers node)) nodes

abbrev pub AreEdgesOf : List StoredNode → Edges → Type 0
AreEdgesOf nodes edges = (from to : ℕ) → HasNext edges from to ↔ IsEdge nodes from to

-- ---- what remains

abbrev pub holds_in : List Bool → ℕ → Bool
holds_in held vertex = get_or held vertex false

-- the number of remaining vertices
abbrev pub count_held : List Bool → ℕ
count_held held = count_by (λ is. is) held

-- each vertex that leads back to itself remains
abbrev pub HoldsCircular : Edges → List Bool → Type 0
HoldsCircular edges held = (vertex : ℕ) → LeadsBack edges vertex → holds_in held vertex ≡ true

-- the first vertex of an order that leads back to itself
pub record IsFirstBack (edges : Edges) (order : List ℕ) (vertex : ℕ) : Type 0 where
  pub earlier : List ℕ
  pub later : List ℕ
  pub cut : order ≡ earlier ++ vertex ∷ later
  pub back : LeadsBack edges vertex
  pub none_earlier : All (λ other. ¬ LeadsBack edges other) earlier

-- ---- what a vertex leads to

-- the work list with a vertex at the end, if it is taken
abbrev pub work_with : Bool → List ℕ → ℕ → List ℕ
work_with taken work vertex = if taken then work ++ vertex ∷ [] else work

-- the unvisited ones of some vertices were visited and added to the work list
pub record Visits (vertices : List ℕ) (old new : List Bool) (old_work new_work : List ℕ) : Type 0 where
  pub many : count_held new + length new_work ≡ count_held old + length old_work
  pub fewer : (vertex : ℕ) → holds_in new vertex ≡ true → holds_in old vertex ≡ true
  pub visited : (vertex : ℕ) → Contains vertices vertex → holds_in new vertex ≡ false
  pub noted : (vertex : ℕ) → holds_in old vertex ≡ true → holds_in new vertex ≡ false → Contains new_work vertex
  pub kept : (vertex : ℕ) → Contains old_work vertex → Contains new_work vertex
  pub only : (vertex : ℕ) → Contains new_work vertex → Contains old_work vertex ⊎ Contains vertices vertex

-- a vertex other than the first one is finished: all that it leads to was visited
pub record IsDoneWith (edges : Edges) (first : ℕ) (unvisited : List Bool) (vertex : ℕ) : Type 0 where
  pub other : ¬ (vertex ≡ first)
  pub onward : (next : ℕ) → HasNext edges vertex next → holds_in unvisited next ≡ false

-- during a search from a vertex: the work list is reached from it, and what was visited is in the work list or finished
pub record Searches (edges : Edges) (first : ℕ) (held unvisited : List Bool) (work : List ℕ) : Type 0 where
  pub reached : (vertex : ℕ) → Contains work vertex → LeadsOn edges first vertex
  pub begun : (next : ℕ) → HasNext edges first next → holds_in unvisited next ≡ false
  pub done : (vertex : ℕ) → holds_in held vertex ≡ true → holds_in unvisited vertex ≡ false
      → Contains work vertex ⊎ IsDoneWith edges first unvisited vertex
