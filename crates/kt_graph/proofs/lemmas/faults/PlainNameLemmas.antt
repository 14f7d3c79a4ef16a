-- What holds of all names of a graph holds of the names of its nodes.
use Rattle.std.proofs.Common.{◌≡◌, ◌<◌, ℕ, false, ◌||◌, not, List, [], ◌∷◌, length, All, Option, None, Some, option_map, refl, ap, ◌∙◌, slice_get, arith}
use Rattle.kt_graph.proofs.Common.{Contains, cons_option, list_any, All-cons, All-filter, All-head, All-map, All-tail, Text, canon_of, is_reserved, made_names, StoredNode, Node, is_leaf, name_at, node_view, nodes_view, in_first, in_rest, NodeTable}

pub of_nodes : (P : Text → Type 0) (table : NodeTable)
    → ((number : ℕ) → number < length table.names → P (name_at table.names number))
    → (order : List ℕ) → ((number : ℕ) → Contains order number → number < length table.names)
    → All (λ (node : Node). P node.name) (nodes_view table order)
of_nodes P table holds [] below = λ k d within. absurd (omega (arith, within))
of_nodes P table holds (number ∷ order) below =
    by (slice_get table.nodes number) (of_nodes P table holds order (λ other has. below other (in_rest number other order has)))
  where
    by : (o : Option StoredNode) → All (λ (node : Node). P node.name) (nodes_view table order)
        → All (λ (node : Node). P node.name) (cons_option (option_map (node_view table.names table.instances number) o) (nodes_view table order))
    by None rest = rest
    by (Some node) rest = All-cons (λ (one : Node). P one.name) (node_view table.names table.instances number node) (nodes_view table order)
        (holds number (below number (in_first number order))) rest

-- none is reserved
pub none_reserved : (nodes : List Node) → All (λ (node : Node). is_reserved node.name ≡ false) nodes
    → list_any (λ (node : Node). is_reserved node.name) nodes ≡ false
none_reserved [] all = refl
none_reserved (node ∷ nodes) all =
    ap (λ b. b || list_any (λ (one : Node). is_reserved one.name) nodes) (All-head (λ (one : Node). is_reserved one.name ≡ false) node nodes all)
    ∙ none_reserved nodes (All-tail (λ (one : Node). is_reserved one.name ≡ false) node nodes all)

-- each made name is the canonical spelling of its file
pub made_canonical : (nodes : List Node) → All (λ (node : Node). canon_of node.name ≡ node.name) nodes
    → All (λ (name : Text). canon_of name ≡ name) (made_names nodes)
made_canonical nodes all =
    All-map (λ (name : Text). canon_of name ≡ name) (λ (node : Node). node.name) (Rattle.kt_graph.specs.nodes.Groups.made_nodes nodes)
    (All-filter (λ (node : Node). not (is_leaf node.kind)) (λ (node : Node). canon_of node.name ≡ node.name) nodes all)
