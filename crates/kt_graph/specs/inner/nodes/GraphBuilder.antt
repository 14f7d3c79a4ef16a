-- The names reached so far, and the nodes of the first of them, as the code holds them (kati's own).
use Rattle.std.specs.Prelude.{◌≡◌, ℕ, ◌+◌, ◌-◌, true, false, List, [], ◌∷◌, ◌++◌, length, fold, take, All, Some, slice_get}
use Rattle.kt_graph.specs.inner.Prelude.{IfSome, Option, after_last, before_last, Needs, Target, AreMadeAlike}
use Rattle.kt_graph.specs.inner.Prelude.{has_recipe, is_double, patterns_of, with_name, suffixes_of, Explicit, Leaf}
use Rattle.kt_graph.specs.inner.Prelude.{group_of, own_part, rule_view}
use Rattle.kt_graph.specs.Prelude.{None, Contains, Text}
use Rattle.kt_graph.specs.views.Prelude.{map}
use Rattle.kt_graph.specs.Prelude.{Entry}
use Rattle.kt_graph.specs.Prelude.{Node, node_of}
use Rattle.kt_graph.specs.declared.nodes.node.Instance.{Instance as Held}
use Rattle.kt_graph.specs.inner.nodes.Stems.{own}
use Rattle.kt_graph.specs.inner.nodes.Stored.{StoredNode, StoredPart, input_numbers, order_only_numbers, stored_at}
use Rattle.kt_graph.specs.inner.nodes.Stored.{stored_with}
use Rattle.kt_graph.specs.declared.nodes.graph_builder.GraphBuilder.{GraphBuilder}
use Rattle.kt_graph.specs.inner.nodes.Needed.{needed_by}
use Rattle.kt_graph.specs.inner.nodes.Numbering.{IsStoredAs, SaysNeeds, SaysNode}
use Rattle.kt_graph.specs.Reach.{IsReached}
use Rattle.kt_list.specs.views.Names.{name_at}
use Rattle.kt_graph.specs.declared.nodes.building.RecipeRule.{RecipeRule}

-- the rules before the last rule with a recipe, and those after it
pub record IsCut (rules : List (Entry × Target)) (used : RecipeRule) : Type 0 where
  pub before : before_last has_recipe rules ≡ map rule_view used.earlier.now
  pub after : after_last has_recipe rules ≡ map rule_view used.later.now

-- the targets of these rules have a name
abbrev pub AreOf : Text → List (Entry × Target) → Type 0
AreOf name rules = All (λ made. made.1.name ≡ name) rules

-- how each leaf is stored that needs nothing
abbrev pub leaf_stored : List Text → StoredNode
leaf_stored suffixes = stored_with Leaf None
    (record { recipe = None; stem = own suffixes; prerequisites = []; order_only = [] } ∷ [])

-- the number of such a leaf, if there is one
abbrev pub IsLeafOf : Option ℕ → List StoredNode → List Entry → Type 0
IsLeafOf leaf nodes rules = IfSome leaf (λ number. slice_get nodes number ≡ Some (leaf_stored (suffixes_of rules)))

-- the search uses the rules of the book and its known names
pub record IsOver (builder : GraphBuilder) : Type 0 where
  pub rules : builder.finder.rules ≡ patterns_of builder.book.now
  pub known_names : builder.finder.known ≡ builder.known.now
  pub leaf : IsLeafOf builder.leaf builder.nodes builder.book.now

-- names are reached and nodes added; those before and the makings keep their numbers, and all else stays
pub record ReachesMore (old : GraphBuilder) (needed : List Text) (added : List StoredNode)
    (new : GraphBuilder) : Type 0 where
  pub book : new.book ≡ old.book
  pub known_names : new.known ≡ old.known
  pub finder_rules : new.finder.rules ≡ old.finder.rules
  pub finder_names : new.finder.known ≡ old.finder.known
  pub nodes : new.nodes ≡ old.nodes ++ added
  pub names : new.numbers ≡ fold with_name old.numbers needed
  pub instances : take (length old.instances.keys) new.instances.keys ≡ old.instances.keys
  pub leaf : IsLeafOf old.leaf old.nodes old.book.now → IsLeafOf new.leaf new.nodes new.book.now

-- the expected node comes after the others, and what it needs is reached
pub record BuildsNode (old : GraphBuilder) (expected : Node) (new : GraphBuilder) : Type 0 where
  pub node : StoredNode
  pub grown : ReachesMore old (needed_by expected) (node ∷ []) new
  pub says : SaysNode new.numbers new.instances.keys expected node

-- each node is that of its name
abbrev pub AllSay : List Entry → List Text → List Text → List Held → List StoredNode → Type 0
AllSay rules known names instances nodes =
    (number : ℕ) (name : Text) (node : StoredNode) → slice_get names number ≡ Some name
    → slice_get nodes number ≡ Some node → SaysNode names instances (node_of rules known name) node

pub record AreTold (builder : GraphBuilder) : Type 0 where
  pub told : AllSay builder.book.now builder.known.now builder.numbers builder.instances.keys builder.nodes

-- ---- the node of a target that needs what the one before does

-- the node of a name whose only rule has a recipe
abbrev pub sole_node : List Text → Text → Entry × Target → Node
sole_node suffixes name made = record {
  name = name;
  kind = Explicit;
  parts = own_part suffixes made ∷ [];
  made_with = group_of made.0;
}

-- the rules of a name need what those of a name with a number do
pub record NeedsAs (builder : GraphBuilder) (name : Text) (number : ℕ) : Type 0 where
  pub other : Text
  pub at : slice_get builder.numbers number ≡ Some other
  pub alike : AreMadeAlike builder.book.now name other

-- and that is the last with a node
pub record NeedsAsLast (builder : GraphBuilder) (name : Text) : Type 0 where
  pub last : ℕ
  pub next : length builder.nodes ≡ last + 1
  pub same : NeedsAs builder name last

pub record IsLikeLast (builder : GraphBuilder) (name : Text) (made : Entry × Target) : Type 0 where
  pub recipe : has_recipe made ≡ true
  pub single : is_double made.0.kind ≡ false
  pub needs : NeedsAsLast builder name

-- the last node has one part, with these prerequisites
pub record HasLastNeeds (builder : GraphBuilder) (needs : Needs) : Type 0 where
  pub last : StoredNode
  pub there : stored_at builder.nodes (length builder.nodes - 1) ≡ last
  pub part : StoredPart
  pub alone : last.parts ≡ part ∷ []
  pub says : SaysNeeds builder.numbers needs part.prerequisites part.order_only
  pub inputs : last.inputs ≡ input_numbers last.parts
  pub order_only : last.order_only ≡ order_only_numbers last.parts

-- goals are reached, and no node is built yet
pub record IsBegun (goals : List Text) (builder : GraphBuilder) : Type 0 where
  pub names : builder.numbers ≡ fold with_name [] goals
  pub nodes : builder.nodes ≡ []

-- each name has its node
pub record IsDone (rules : List Entry) (known goals : List Text) (names : List Text) (instances : List Held)
    (nodes : List StoredNode) : Type 0 where
  pub reached : All (IsReached rules known goals) names
  pub named : All (Contains names) goals
  pub stored : (number : ℕ) (node : StoredNode) → slice_get nodes number ≡ Some node
      → IsStoredAs names instances (name_at names number) (node_of rules known (name_at names number)) node
  pub all : length nodes ≡ length names

-- no node remains to be built
abbrev pub IsBuilt : List Entry → List Text → List Text → GraphBuilder → Type 0
IsBuilt rules known goals builder = IsDone rules known goals builder.numbers builder.instances.keys builder.nodes
