-- What a graph promises beside being one (kati's own).
use Rattle.std.specs.Prelude.{◌≡◌, Bool, true, false, not, ◌&&◌, List, bytes_eq}
use Rattle.kt_graph.specs.Prelude.{Contains, Text, Node, is_leaf, all_inputs}
use Rattle.kt_graph.specs.views.Prelude.{list_any, is_among, Implicit}

-- whether one of the nodes has a name, and a rule makes it
abbrev pub is_made_among : List Node → Text → Bool
is_made_among nodes name = list_any (λ node. bytes_eq node.name name && not (is_leaf node.kind)) nodes

-- what an implicit node needs is known, or a rule makes it: it isn't a file that nothing names
abbrev pub HasMadeInputs : List Text → List Node → Type 0
HasMadeInputs known nodes =
    (node : Node) (input : Text) → Contains nodes node → node.kind ≡ Implicit → Contains (all_inputs node) input
    → is_among known input ≡ false → is_made_among nodes input ≡ true
