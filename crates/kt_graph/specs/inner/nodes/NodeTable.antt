-- The code's own table of nodes as those of the definitions (kati's own).
use Rattle.std.specs.Prelude.{ℕ, List, map, filter_map, Option, option_map, slice_get}
use Rattle.kt_list.specs.views.Names.{name_at, names_at}
use Rattle.kt_graph.specs.inner.Prelude.{option_and_then, Part}
use Rattle.kt_graph.specs.Prelude.{Text, Instance, Node}
use Rattle.kt_graph.specs.declared.nodes.node.Instance.{Instance as Held}
use Rattle.kt_graph.specs.inner.nodes.Stems.{stem_in}
use Rattle.kt_graph.specs.inner.nodes.Stored.{StoredNode, StoredPart, stored_at}
use Rattle.kt_graph.specs.views.nodes.Node.{instance_view}

-- the names that goals need, the makings, and the nodes of the names
pub record NodeTable : Type 0 where
  pub names : List Text
  pub instances : List Held
  pub nodes : List StoredNode

abbrev pub instance_at : List Held → Option ℕ → Option Instance
instance_at instances number = option_map instance_view (option_and_then (slice_get instances) number)

-- a part of the node of a name
abbrev pub part_view : List Text → Text → StoredPart → Part
part_view names name part = record {
  recipe = part.recipe;
  stem = stem_in name part.stem;
  needs = record {
    prerequisites = names_at names part.prerequisites;
    order_only = names_at names part.order_only;
  };
}

-- the node with a number
abbrev pub node_view : List Text → List Held → ℕ → StoredNode → Node
node_view names instances number node = record {
  name = name_at names number;
  kind = node.kind;
  parts = map (part_view names (name_at names number)) node.parts;
  made_with = instance_at instances node.made_with;
}

abbrev pub node_at : NodeTable → ℕ → Option Node
node_at table number = option_map (node_view table.names table.instances number) (slice_get table.nodes number)

-- the node with a number, where there is one
abbrev pub node_numbered : NodeTable → ℕ → Node
node_numbered table number = node_view table.names table.instances number (stored_at table.nodes number)

-- the nodes with these numbers, in order
abbrev pub nodes_view : NodeTable → List ℕ → List Node
nodes_view table order = filter_map (node_at table) order
