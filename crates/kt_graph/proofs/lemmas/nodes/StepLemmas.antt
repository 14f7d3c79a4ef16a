-- Steps of the work list, one after another, and which node a name has.
use Rattle.std.proofs.Common.{rules, ◌≡◌, Bool, true, false, ℕ, List, [], ◌∷◌, ◌++◌, length, map, fold, take, Option, None, Some, slice_get, option_map, ap, arith}
use Rattle.kt_graph.proofs.Common.{list_any, option_to_list, append-nil, length-take, take-take, take_all, Text, Needs, Target, explicit_rules, is_double, Entry, with_name, all_needs, suffixes_of, GraphBuilder, NodeKind, DoubleColon, Implicit, Leaf, InferredParts, instance_view, needed_by_parts, part_with, single_node, StoredNode, StoredPart, stored_with, part_held, Node, Part, double_node, is_leaf, joined_needs, kind_without, needs_after, node_by, node_of, node_with as node_given, own_part, plain_node, searched, used_rule, IsMaking, SayParts, SaysNeeds, BuildsNode, IsLeafOf, IsOver, ReachesMore, leaf_stored}
use Rattle.kt_graph.specs.inner.nodes.Inferring.{inferred_node}
use Rattle.kt_graph.specs.declared.nodes.part.NumberedNeeds.{NumberedNeeds}
use Rattle.kt_graph.specs.declared.nodes.part.PartRecipe.{PartRecipe}
use Rattle.kt_graph.specs.inner.nodes.Stems.{own}
use Rattle.kt_graph.specs.nodes.Node.{Instance}
use Rattle.kt_list.proofs.ListLemmas.{last_pushed}
use Rattle.kt_list.proofs.PrefixLemmas.{slice_get-left}

-- ---- steps

-- the search is over the book after a step, too
pub over_kept : (old new : GraphBuilder) (needed : List Text) (added : List StoredNode) → ReachesMore old needed added new → IsOver old → IsOver new
over_kept old new needed added grown h = grind arith

beginning : {A : Type 0} (xs ys zs : List A) → take (length xs) ys ≡ xs → take (length ys) zs ≡ ys → take (length xs) zs ≡ xs
beginning xs ys zs first second = grind (arith, length, length-take, take-take, take)

-- a search, and then a step
pub builds_after : (old middle new : GraphBuilder) (expected : Node) → ReachesMore old [] [] middle → BuildsNode middle expected new → BuildsNode old expected new
builds_after old middle new expected first second = grind (arith, append-nil, beginning)

-- a leaf stays where it is
pub leaf_kept : (leaf : Option ℕ) (nodes more : List StoredNode) (node : StoredNode) (rules : List Entry) → more ≡ nodes ++ node ∷ [] → IsLeafOf leaf nodes rules → IsLeafOf leaf more rules
leaf_kept leaf nodes more node rules pushed h = grind (arith, slice_get-left)

-- a node with one part
pub holds_node : (old middle : GraphBuilder) (names : List Text) (numbered : NumberedNeeds) (nodes : List StoredNode) (name : Text) (kind : NodeKind) (part : PartRecipe) (needs : Needs)
    (making : Option Instance) (made_with : Option ℕ) → middle ≡ record old { numbers = names; needs = numbered; instances = middle.instances }
    → names ≡ fold with_name old.numbers (all_needs needs) → SaysNeeds names needs numbered.prerequisites.items numbered.order_only.items
    → take (length old.instances.keys) middle.instances.keys ≡ old.instances.keys → IsMaking middle.instances.keys making made_with
    → nodes ≡ middle.nodes ++ stored_with kind made_with (part_held part middle.needs ∷ []) ∷ []
    → BuildsNode old (single_node name kind part needs making) (record middle { nodes = nodes })
holds_node old middle names numbered nodes name kind part needs making made_with others reached says kept made pushed = grind (arith, append-nil, leaf_kept)

-- a double-colon node
pub holds_double : (old : GraphBuilder) (names : List Text) (nodes : List StoredNode) (suffixes : List Text) (name : Text) (rules : List (Entry × Target)) (parts : List StoredPart)
    → names ≡ fold with_name old.numbers (needed_by_parts (map (own_part suffixes) rules)) → SayParts names name (map (own_part suffixes) rules) parts
    → nodes ≡ old.nodes ++ stored_with DoubleColon None parts ∷ []
    → BuildsNode old (double_node suffixes name rules) (record old { numbers = names; nodes = nodes })
holds_double old names nodes suffixes name rules parts reached say pushed = grind (arith, take_all, length, leaf_kept)

-- a leaf
holds_leaf : (old : GraphBuilder) (leaf : Option ℕ) (nodes : List StoredNode) (name : Text) → nodes ≡ old.nodes ++ leaf_stored (suffixes_of old.book.now) ∷ []
    → (IsLeafOf old.leaf old.nodes old.book.now → IsLeafOf leaf nodes old.book.now)
    → BuildsNode old (plain_node (suffixes_of old.book.now) name [] false) (record old { nodes = nodes; leaf = leaf })
unfolding joined_needs
holds_leaf old leaf nodes name pushed kept = grind (arith, take_all, length)

-- the first one
pub holds_first : (old : GraphBuilder) (number : ℕ) (nodes : List StoredNode) (part : PartRecipe) (needs : NumberedNeeds) (name : Text) → number ≡ length old.nodes
    → nodes ≡ old.nodes ++ stored_with Leaf None (part_held part needs ∷ []) ∷ [] → part.recipe ≡ None → part.stem ≡ own (suffixes_of old.book.now)
    → needs.prerequisites.items ≡ [] → needs.order_only.items ≡ []
    → BuildsNode old (plain_node (suffixes_of old.book.now) name [] false) (record old { nodes = nodes; leaf = Some number })
holds_first old number nodes part needs name last pushed recipe stem none others = grind (arith, holds_leaf, length, last_pushed)

-- one more
pub holds_again : (old : GraphBuilder) (number : ℕ) (nodes : List StoredNode) (name : Text) → slice_get old.nodes number ≡ Some (leaf_stored (suffixes_of old.book.now))
    → nodes ≡ old.nodes ++ option_to_list (slice_get old.nodes number)
    → BuildsNode old (plain_node (suffixes_of old.book.now) name [] false) (record old { nodes = nodes })
holds_again old number nodes name at pushed = grind (arith, holds_leaf, leaf_kept)

pub leaf_told : (suffixes : List Text) (name : Text) (rules : List (Entry × Target)) (phony : Bool) → is_leaf (kind_without rules phony) ≡ true
    → plain_node suffixes name [] false ≡ plain_node suffixes name rules phony
leaf_told suffixes name rules phony is = grind arith

-- what a node with one part is
pub single_told : (name : Text) (kind : NodeKind) (part : PartRecipe) (needs given : Needs) (making made_with : Option Instance) (expected : Part)
    → needs ≡ given → part_with name part given ≡ expected → making ≡ made_with
    → single_node name kind part needs making ≡ record { name = name; kind = kind; parts = expected ∷ []; made_with = made_with }
single_told name kind part needs given making made_with expected is told made = grind arith

-- the node of a name without recipe
pub plain_told : (suffixes : List Text) (name : Text) (rules : List (Entry × Target)) (phony given : Bool) (kind : NodeKind) (part : PartRecipe) (needs : Needs)
    → kind ≡ kind_without rules phony → phony ≡ given → part.recipe ≡ None → part.stem ≡ own suffixes → needs ≡ joined_needs rules
    → single_node name kind part needs None ≡ plain_node suffixes name rules given
plain_told suffixes name rules phony given kind part needs is same recipe held joined = grind arith

-- that of a chosen rule
pub implicit_told : (name : Text) (rules : List (Entry × Target)) (inferred : InferredParts) (part : PartRecipe) (needs : Needs)
    → part.recipe ≡ inferred.recipe → part.stem ≡ inferred.stem → needs ≡ needs_after inferred.needs (joined_needs rules)
    → single_node name Implicit part needs (option_map instance_view inferred.making) ≡ inferred_node name rules inferred
implicit_told name rules inferred part needs recipe stem joined = grind arith

-- ---- which node

-- that of the rules with two colons
pub double_with : (rules : List Entry) (known : List Text) (name : Text) (made : List (Entry × Target)) → list_any (λ rule. is_double rule.0.kind) made ≡ true
    → double_node (suffixes_of rules) name made ≡ node_given rules known name made
double_with rules known name made double = grind arith

-- that of the rules with one colon
pub single_with : (rules : List Entry) (known : List Text) (name : Text) (made : List (Entry × Target)) (used : Option (Entry × Target))
    → list_any (λ rule. is_double rule.0.kind) made ≡ false → used_rule made ≡ used
    → node_by rules name made used (searched rules known name) ≡ node_given rules known name made
single_with rules known name made used single found = grind arith

-- that of the explicit rules
pub node_is : (rules : List Entry) (known : List Text) (name : Text) (made : List (Entry × Target)) → made ≡ explicit_rules rules name
    → node_given rules known name made ≡ node_of rules known name
unfolding node_of
node_is rules known name made is = ap (node_given rules known name) is
