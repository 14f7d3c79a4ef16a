-- Which made nodes one making makes (GNU make manual, "Multiple Targets in a Rule", "Introduction to Pattern Rules").
use Rattle.std.specs.Prelude.{Bool, false, not, ◌&&◌, ◌||◌, nat_eq, List, map, filter, find, bytes_eq, Option, Some}
use Rattle.kt_graph.specs.Prelude.{option_map_or}
use Rattle.kt_graph.specs.nodes.Node.{Instance, Node, of_group, of_pattern, is_leaf}

-- whether two makings are one: of groups with the same first target, or of the same pattern rule for the same directory
-- and stem
abbrev pub instance_eq : Instance → Instance → Bool
instance_eq (of_group first) (of_group other) = bytes_eq first other
instance_eq (of_pattern rule directory stem) (of_pattern other_rule other_directory other_stem) =
    nat_eq rule other_rule && (bytes_eq directory other_directory && bytes_eq stem other_stem)
instance_eq one other = false

-- two makings of several names are the same
abbrev pub is_one_making : Option Instance → Option Instance → Bool
is_one_making (Some making) (Some other) = instance_eq making other
is_one_making one other = false

-- two nodes are in one group
abbrev pub are_together : Node → Node → Bool
are_together node other = bytes_eq node.name other.name || is_one_making node.made_with other.made_with

-- the nodes that aren't leaves: a statement makes each of their names
abbrev pub made_nodes : List Node → List Node
made_nodes nodes = filter (λ node. not (is_leaf node.kind)) nodes

-- whether a node is the first of those in its group
abbrev pub is_leading : List Node → Node → Bool
is_leading nodes node = option_map_or (λ first. bytes_eq first.name node.name) (find (are_together node) nodes) false

-- a group for each node that is the first in it: all nodes in the same group as it, in order
unfoldable pub groups_among : List Node → List (List Node)
groups_among nodes = map (λ leader. filter (are_together leader) nodes) (filter (is_leading nodes) nodes)

-- the groups of a graph's nodes
abbrev pub groups_of : List Node → List (List Node)
groups_of nodes = groups_among (made_nodes nodes)
