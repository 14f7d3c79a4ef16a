-- Nodes as the graph holds them: with numbers for names, and with the lists of all nodes in one (kati's own).
use Rattle.std.specs.Prelude.{◌≡◌, ℕ, ◌≤◌, ◌<◌, ◌+◌, List, [], ◌++◌, length, map, All, Option, None, option_map}
use Rattle.std.specs.Prelude.{◌∷◌, Bool, Some, false, flat_map, fold, get_or, slice_get, true}
use Rattle.kt_graph.specs.inner.Prelude.{slice_range, HasMore, RecipeLine, NodeKind, Leaf}
use Rattle.kt_graph.specs.declared.nodes.part.Maker.{Maker}
use Rattle.kt_graph.specs.declared.nodes.part.NumberedNeeds.{NumberedNeeds}
use Rattle.kt_graph.specs.declared.nodes.part.NumberedPart.{NumberedPart}
use Rattle.kt_graph.specs.declared.nodes.part.PartRecipe.{PartRecipe}
use Rattle.kt_graph.specs.declared.nodes.stored.NodeHead.{NodeHead}
use Rattle.kt_graph.specs.declared.nodes.stored.HeldPart.{HeldPart}
use Rattle.kt_graph.specs.declared.nodes.stored.SeenPart.{SeenPart}
use Rattle.kt_graph.specs.declared.nodes.span.Span.{Span}
use Rattle.kt_graph.specs.inner.nodes.Inputs.{numbers_without, with_input_number}
use Rattle.kt_graph.specs.inner.nodes.Stems.{Stem}

-- a recipe with the stem and prerequisites for its automatic macros; the prerequisites in order and with repeats
pub record StoredPart : Type 0 where
  pub recipe : Option (List RecipeLine)
  pub stem : Stem
  pub prerequisites : List ℕ
  pub order_only : List ℕ

-- what makes a name and what it needs, each once
pub record StoredNode : Type 0 where
  pub kind : NodeKind
  pub parts : List StoredPart
  pub made_with : Option ℕ
  pub inputs : List ℕ
  pub order_only : List ℕ

-- the node with a number; where there is none, a leaf that needs nothing
abbrev pub stored_at : List StoredNode → ℕ → StoredNode
stored_at nodes number =
    get_or nodes number (record { kind = Leaf; parts = []; made_with = None; inputs = []; order_only = [] })

-- a node that is there has just one part
abbrev pub HasOnePart : List StoredNode → ℕ → Type 0
HasOnePart nodes number = length (stored_at nodes number).parts ≡ 1

-- the prerequisites of parts, each once
abbrev pub input_numbers : List StoredPart → List ℕ
input_numbers parts = fold with_input_number [] (flat_map (λ part. part.prerequisites) parts)

-- the order-only prerequisites of parts, each once and without the inputs
abbrev pub order_only_numbers : List StoredPart → List ℕ
order_only_numbers parts =
    fold with_input_number [] (numbers_without (input_numbers parts) (flat_map (λ part. part.order_only) parts))

-- a node with these parts
abbrev pub stored_with : NodeKind → Option ℕ → List StoredPart → StoredNode
stored_with kind made_with parts = record {
  kind = kind;
  parts = parts;
  made_with = made_with;
  inputs = input_numbers parts;
  order_only = order_only_numbers parts;
}

-- two nodes have one making and the same inputs
pub record HaveOneMaking (one other : StoredNode) : Type 0 where
  pub made_with : one.made_with ≡ other.made_with
  pub inputs : one.inputs ≡ other.inputs
  pub order_only : one.order_only ≡ other.order_only

-- ---- before they are stored

abbrev pub part_held : PartRecipe → NumberedNeeds → StoredPart
part_held part needs = record {
  recipe = option_map (λ lines. lines.now) part.recipe;
  stem = part.stem;
  prerequisites = needs.prerequisites.items;
  order_only = needs.order_only.items;
}

abbrev pub parts_held : List NumberedPart → List StoredPart
parts_held parts = map (λ one. part_held one.part one.needs) parts

-- a part that needs what another does
abbrev pub part_like : PartRecipe → StoredPart → StoredPart
part_like part other = record {
  recipe = option_map (λ lines. lines.now) part.recipe;
  stem = part.stem;
  prerequisites = other.prerequisites;
  order_only = other.order_only;
}

-- a node that needs what another does
abbrev pub node_like : NodeKind → Option ℕ → PartRecipe → StoredNode → StoredNode
node_like kind made_with part other = record {
  kind = kind;
  parts = map (part_like part) other.parts;
  made_with = made_with;
  inputs = other.inputs;
  order_only = other.order_only;
}

-- ---- in one list

abbrev pub cut : {A : Type 0} → List A → Span → List A
cut items span = slice_range items span.start span.end

-- what is marked as there
abbrev pub some_if : {A : Type 0} → Bool → A → Option A
some_if true x = Some x
some_if false x = None

abbrev pub part_stored : List (List ℕ) → HeldPart → StoredPart
part_stored rows part = record {
  recipe = some_if part.has_recipe part.lines.now;
  stem = part.stem;
  prerequisites = get_or rows part.needs [];
  order_only = get_or rows (part.needs + 1) [];
}

abbrev pub parts_stored : List (List ℕ) → List HeldPart → List StoredPart
parts_stored rows parts = map (part_stored rows) parts

abbrev pub node_stored : List HeldPart → List (List ℕ) → NodeHead → StoredNode
node_stored parts rows head = record {
  kind = head.kind;
  parts = parts_stored rows (cut parts head.parts);
  made_with = some_if head.has_making head.making;
  inputs = get_or rows head.inputs [];
  order_only = get_or rows (head.inputs + 1) [];
}

abbrev pub nodes_stored : List HeldPart → List (List ℕ) → List NodeHead → List StoredNode
nodes_stored parts rows heads = map (node_stored parts rows) heads

abbrev pub part_seen : SeenPart → StoredPart
part_seen part = record {
  recipe = option_map (λ lines. lines.now) part.recipe;
  stem = part.stem.now;
  prerequisites = part.prerequisites.now;
  order_only = part.order_only.now;
}

-- places in a list of this length
pub record IsSpanWithin (count : ℕ) (span : Span) : Type 0 where
  pub rises : span.start ≤ span.end
  pub ends : span.end ≤ count

-- so is each of two rows
abbrev pub IsPartWithin : ℕ → HeldPart → Type 0
IsPartWithin count part = part.needs + 1 < count

pub record IsHeadWithin (many_parts many_rows : ℕ) (head : NodeHead) : Type 0 where
  pub parts : IsSpanWithin many_parts head.parts
  pub inputs : head.inputs + 1 < many_rows

-- all places are in the lists of parts and rows
pub record AreStored (parts : List HeldPart) (rows : List (List ℕ)) (heads : List NodeHead) : Type 0 where
  pub parts_within : All (IsPartWithin (length rows)) parts
  pub heads_within : All (IsHeadWithin (length parts) (length rows)) heads

-- ---- steps

-- parts and rows were added at the end
pub record Grew (parts : List HeldPart) (rows : List (List ℕ)) (new_parts : List HeldPart)
    (new_rows : List (List ℕ)) : Type 0 where
  pub more_parts : HasMore parts new_parts
  pub more_rows : HasMore rows new_rows
  pub within : All (IsPartWithin (length rows)) parts → All (IsPartWithin (length new_rows)) new_parts

-- the place of two rows
pub record AreRowsOf (rows : List (List ℕ)) (first second : List ℕ) (place : ℕ) : Type 0 where
  pub within : place + 1 < length rows
  pub one : get_or rows place [] ≡ first
  pub other : get_or rows (place + 1) [] ≡ second

-- a node whose part comes next, and the place of the part's rows: they are those of another node with one part
pub record IsLike (heads : List NodeHead) (parts : List HeldPart) (number : ℕ) (maker : Maker)
    (made : NodeHead × ℕ) : Type 0 where
  pub other : NodeHead
  pub at : slice_get heads number ≡ Some other
  pub part : HeldPart
  pub alone : cut parts other.parts ≡ part ∷ []
  pub needs : made.1 ≡ part.needs
  pub inputs : made.0.inputs ≡ other.inputs
  pub kind : made.0.kind ≡ maker.kind
  pub made_with : some_if made.0.has_making made.0.making ≡ maker.made_with
  pub start : made.0.parts.start ≡ length parts
  pub end : made.0.parts.end ≡ length parts + 1

-- parts were added at the end
pub record PutsParts (parts new_parts : List HeldPart) (rows : List (List ℕ))
    (expected : List StoredPart) : Type 0 where
  pub more : List HeldPart
  pub put : new_parts ≡ parts ++ more
  pub are : parts_stored rows more ≡ expected

-- a node without its lists
pub record IsHeadOf (parts : List HeldPart) (rows : List (List ℕ)) (expected : StoredNode) (head : NodeHead) : Type 0
  where
    pub within : IsHeadWithin (length parts) (length rows) head
    pub is : node_stored parts rows head ≡ expected

-- the numbers of all inputs of a node
abbrev pub needed_numbers : StoredNode → List ℕ
needed_numbers node = node.inputs ++ node.order_only
