-- What the nodes of a group share, and the law of groups (GNU make manual, "Multiple Targets in a Rule").
use Rattle.std.specs.Prelude.{◌≡◌, ◌↔◌, List, [], ◌∷◌, All, map}
use Rattle.kt_graph.specs.Prelude.{Contains, IsStrictlySortedBy, nat_cmp, slice_cmp, Text, Entry}
use Rattle.kt_graph.specs.nodes.Node.{Node, inputs_of, order_only_of}
use Rattle.kt_graph.specs.Reach.{IsInGroup}
use Rattle.kt_graph.specs.nodes.Groups.{made_nodes}

-- each node of a group has the same inputs, and the same order-only ones
pub record ShareInputs (group : List Node) : Type 0 where
  pub inputs : (one other : Node) → Contains group one → Contains group other → inputs_of one ≡ inputs_of other
  pub order_only : (one other : Node) → Contains group one → Contains group other → order_only_of one
      ≡ order_only_of other

-- the nodes of the first group share their inputs
abbrev pub FirstSharesInputs : List (List Node) → Type 0
FirstSharesInputs groups = (group : List Node) (others : List (List Node)) → groups ≡ group ∷ others → ShareInputs group

-- ---- the law of groups: they are those of `IsInGroup`

abbrev pub HasBoth : List (List Node) → Node → Node → Type 0
HasBoth groups one other = (group : List Node) × Contains groups group × Contains group one × Contains group other

-- a node is in exactly one of the groups
pub record IsInOne (groups : List (List Node)) (node : Node) : Type 0 where
  pub group : List Node
  pub among : Contains groups group
  pub stands : Contains group node
  pub single : (other : List Node) → Contains groups other → Contains other node → other ≡ group

abbrev pub leader_name : List Node → Text
leader_name [] = []
leader_name (node ∷ nodes) = node.name

-- the groups of the nodes of a graph
pub record AreGroups (rules : List Entry) (known goals : List Text) (nodes : List Node)
    (groups : List (List Node)) : Type 0 where
  -- each has a member
  pub filled : (group : List Node) → Contains groups group → (node : Node) × Contains group node
  -- they have only made nodes, and each of these exactly once
  pub made : (group : List Node) (node : Node) → Contains groups group → Contains group node
      → Contains (made_nodes nodes) node
  pub each : (node : Node) → Contains (made_nodes nodes) node → IsInOne groups node
  -- two nodes are in one group exactly if one making makes both
  pub together : (one other : Node) → Contains (made_nodes nodes) one → Contains (made_nodes nodes) other
      → HasBoth groups one other ↔ IsInGroup rules known goals one.name other.name
  -- the members are in byte order, and so are the groups by their first members
  pub members : All (λ group. IsStrictlySortedBy (slice_cmp nat_cmp) (map (λ node. node.name) group)) groups
  pub leaders : IsStrictlySortedBy (slice_cmp nat_cmp) (map leader_name groups)

-- the names of the nodes that are made
abbrev pub made_names : List Node → List Text
made_names nodes = map (λ node. node.name) (made_nodes nodes)
