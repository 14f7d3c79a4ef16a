-- What a graph holds by numbers: names, makings and nodes (kati's own).
use Rattle.std.specs.Prelude.{◌≡◌, ◌↔◌, ℕ, ◌<◌, Bool, false, not, bytes_eq, find, List, length, All, Some}
use Rattle.kt_graph.specs.Prelude.{Contains, IsStrictlySortedBy, nat_cmp, option_map_or, slice_cmp, Text, Node, is_leaf}
use Rattle.kt_graph.specs.declared.nodes.node.Instance.{Instance as Held}
use Rattle.kt_graph.specs.inner.nodes.Numbering.{HasNumbers}
use Rattle.kt_graph.specs.inner.nodes.NodeTable.{NodeTable, instance_at}
use Rattle.kt_list.specs.views.Names.{name_at, names_at}

-- no two names are equal
abbrev pub AreDistinct : List Text → Type 0
AreDistinct names = (one other : ℕ) → one < length names → other < length names
    → name_at names one ≡ name_at names other → one ≡ other

-- the numbers of all names, in byte order of the names
pub record IsByteOrder (names : List Text) (order : List ℕ) : Type 0 where
  pub rises : IsStrictlySortedBy (slice_cmp nat_cmp) (names_at names order)
  pub all : (number : ℕ) → Contains order number ↔ (number < length names)

-- no two makings are equal
abbrev pub AreDifferent : List Held → Type 0
AreDifferent instances =
    (one other : ℕ) → one < length instances → other < length instances → instance_at instances (Some one)
    ≡ instance_at instances (Some other) → one ≡ other

-- no two names are equal, no two makings, and the numbers of nodes are numbers of names and makings
pub record AreNodesHeld (table : NodeTable) : Type 0 where
  pub distinct : AreDistinct table.names
  pub apart : AreDifferent table.instances
  pub numbers : All (HasNumbers (length table.names) (length table.instances)) table.nodes

-- each name has its node, and the order is the byte order of the names
pub record IsWhole (table : NodeTable) (order : List ℕ) : Type 0 where
  pub held : AreNodesHeld table
  pub as_many : length table.nodes ≡ length table.names
  pub rises : IsByteOrder table.names order

-- whether the nodes say that a rule makes a name
abbrev pub makes_among : List Node → Text → Bool
makes_among nodes name = option_map_or
    (λ node. not (is_leaf node.kind)) (find (λ node. bytes_eq name node.name) nodes) false
