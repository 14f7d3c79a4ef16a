-- Names and nodes by numbers, as the code holds them (kati's own).
use Rattle.std.specs.Prelude.{◌≡◌, ℕ, ◌<◌, List, ◌++◌, length, fold, All, Option, IfSome}
use Rattle.kt_graph.specs.inner.Prelude.{AllZip, AreBelow, Needs, with_name, Part}
use Rattle.kt_graph.specs.Prelude.{Text, Instance, Node}
use Rattle.kt_graph.specs.declared.nodes.node.Instance.{Instance as Held}
use Rattle.kt_graph.specs.inner.nodes.Stems.{stem_in}
use Rattle.kt_graph.specs.inner.nodes.Stored.{StoredNode, StoredPart, input_numbers, order_only_numbers}
use Rattle.kt_graph.specs.inner.nodes.NodeTable.{instance_at, node_view}
use Rattle.kt_list.specs.views.Names.{AreNumbersOf, name_at}

-- the prerequisites of a part are numbers of names
pub record IsNumbered (count : ℕ) (part : StoredPart) : Type 0 where
  pub prerequisites : AreBelow count part.prerequisites
  pub order_only : AreBelow count part.order_only

-- all numbers of a node are those of names and makings; its inputs are the prerequisites of its parts, each once
pub record HasNumbers (names makings : ℕ) (node : StoredNode) : Type 0 where
  pub parts : All (IsNumbered names) node.parts
  pub inputs : node.inputs ≡ input_numbers node.parts
  pub order_only : node.order_only ≡ order_only_numbers node.parts
  pub made_with : IfSome node.made_with (λ making. making < makings)

-- the stored node of a name is the expected one
pub record IsStoredAs (names : List Text) (instances : List Held) (name : Text) (expected : Node)
    (node : StoredNode) : Type 0 where
  pub numbers : HasNumbers (length names) (length instances) node
  pub told : (number : ℕ) → name_at names number ≡ name → node_view names instances number node ≡ expected

-- ---- the same with texts for names

-- the numbers of more names were added, and the names are reached
pub record AddsNumbers (names : List Text) (numbers : List ℕ) (added new : List Text) (more : List ℕ) : Type 0 where
  pub reached : new ≡ fold with_name names added
  pub say : (earlier : List Text) → AreNumbersOf names numbers earlier → AreNumbersOf new more (earlier ++ added)

pub record SaysNeeds (names : List Text) (expected : Needs) (needed others : List ℕ) : Type 0 where
  pub prerequisites : AreNumbersOf names needed expected.prerequisites
  pub order_only : AreNumbersOf names others expected.order_only

-- the stored part is the expected one in the node of a name
pub record SaysPart (names : List Text) (name : Text) (expected : Part) (part : StoredPart) : Type 0 where
  pub recipe : part.recipe ≡ expected.recipe
  pub stem : stem_in name part.stem ≡ expected.stem
  pub needs : SaysNeeds names expected.needs part.prerequisites part.order_only

abbrev pub SayParts : List Text → Text → List Part → List StoredPart → Type 0
SayParts names name expected parts = AllZip (SaysPart names name) expected parts

-- the number of a making, if there is one
pub record IsMaking (instances : List Held) (expected : Option Instance) (number : Option ℕ) : Type 0 where
  pub numbers : IfSome number (λ making. making < length instances)
  pub told : instance_at instances number ≡ expected

-- the stored node is the expected one, if it has its name
pub record SaysNode (names : List Text) (instances : List Held) (expected : Node) (node : StoredNode) : Type 0 where
  pub kind : node.kind ≡ expected.kind
  pub parts : SayParts names expected.name expected.parts node.parts
  pub making : IsMaking instances expected.made_with node.made_with
  pub inputs : node.inputs ≡ input_numbers node.parts
  pub order_only : node.order_only ≡ order_only_numbers node.parts
