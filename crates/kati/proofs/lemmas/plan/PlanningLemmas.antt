-- The names of the nodes of a group, one after another.
use Rattle.std.proofs.Common.{arith, ◌≡◌, ℕ, ◌+◌, ◌<◌, List, length, get_or, drop, flat_map, fold}
use Rattle.kati.proofs.Common.{drop_more, flat_map-cons, fold-append, Text, with_name, Node}

-- the names of one node more
pub names_more : (names : Node → List Text) (old new : List Text) (group : List Node) (i : ℕ) (node : Node) → i < length group → node ≡ get_or group i node
    → new ≡ fold with_name old (names node)
    → fold with_name new (flat_map names (drop (i + 1) group)) ≡ fold with_name old (flat_map names (drop i group))
names_more names old new group i node within is grown = grind (arith, fold-append, flat_map-cons, drop_more)
