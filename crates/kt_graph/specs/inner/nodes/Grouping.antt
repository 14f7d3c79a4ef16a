-- Groups of nodes by numbers, as the code finds them (kati's own).
use Rattle.std.specs.Prelude.{◌≡◌, ℕ, ◌<◌, Bool, true, false, not, ◌&&◌, nat_eq, List, [], ◌∷◌, filter, flat_map}
use Rattle.std.specs.Prelude.{All, get_or, length, Option, Some, None, slice_get, if◌then◌else◌}
use Rattle.kt_graph.specs.inner.Prelude.{option_and_then}
use Rattle.kt_graph.specs.Prelude.{option_map_or, Node, is_leaf}
use Rattle.kt_graph.specs.inner.nodes.Stored.{HaveOneMaking, StoredNode, stored_at}
use Rattle.kt_graph.specs.inner.nodes.NodeTable.{NodeTable, nodes_view}
use Rattle.kt_graph.specs.inner.nodes.Buckets.{with_edge}

-- whether a rule makes the node with a number
abbrev pub is_made_at : List StoredNode → ℕ → Bool
is_made_at nodes number = option_map_or (λ node. not (is_leaf node.kind)) (slice_get nodes number) false

-- the making of a node, if the making makes other names, too
abbrev pub making_at : List StoredNode → ℕ → Option ℕ
making_at nodes number = option_and_then (λ node. node.made_with) (slice_get nodes number)

abbrev pub is_same_making : ℕ → Option ℕ → Bool
is_same_making making None = false
is_same_making making (Some other) = nat_eq making other

abbrev pub is_made_with : List StoredNode → ℕ → ℕ → Bool
is_made_with nodes making number = is_made_at nodes number && is_same_making making (making_at nodes number)

-- for each of a number of makings, those of the numbers whose nodes it makes
pub record HasMembers (nodes : List StoredNode) (makings : ℕ) (numbers : List ℕ) (members : List
    (List ℕ)) : Type 0 where
  pub many : length members ≡ makings
  pub each : (making : ℕ) → making < makings → get_or members making [] ≡ filter (is_made_with nodes making) numbers

-- the members with one more number
abbrev pub with_making : List (List ℕ) → ℕ → Option ℕ → List (List ℕ)
with_making members number None = members
with_making members number (Some making) = with_edge members (making, number)

abbrev pub with_member : List StoredNode → List (List ℕ) → ℕ → List (List ℕ)
with_member nodes members number = if is_made_at nodes number then with_making members number (making_at nodes number)
    else members

-- the numbers in the same group as a number
abbrev pub members_by : List (List ℕ) → ℕ → Option ℕ → List ℕ
members_by members number None = number ∷ []
members_by members number (Some making) = get_or members making []

abbrev pub members_of : List StoredNode → List (List ℕ) → ℕ → List ℕ
members_of nodes members number = members_by members number (making_at nodes number)

-- nodes have the making and the inputs of one
abbrev pub AreAllAlike : List StoredNode → ℕ → List ℕ → Type 0
AreAllAlike nodes one numbers = All (λ number. HaveOneMaking (stored_at nodes one) (stored_at nodes number)) numbers

-- whether a number is the first in a list
abbrev pub is_first : List ℕ → ℕ → Bool
is_first [] number = false
is_first (first ∷ others) number = nat_eq first number

abbrev pub leads_by : List (List ℕ) → ℕ → Option ℕ → Bool
leads_by members number None = true
leads_by members number (Some making) = is_first (get_or members making []) number

abbrev pub leads_at : List StoredNode → List (List ℕ) → ℕ → Bool
leads_at nodes members number = is_made_at nodes number && leads_by members number (making_at nodes number)

-- the group of a number, if the number is the first in it
abbrev pub group_at : NodeTable → List (List ℕ) → ℕ → List (List Node)
group_at table members number =
    if leads_at table.nodes members number then nodes_view table (members_of table.nodes members number) ∷ [] else []

abbrev pub groups_left : NodeTable → List (List ℕ) → List ℕ → List (List Node)
groups_left table members numbers = flat_map (group_at table members) numbers
