-- The names that goals need, and what is wrong with them (POSIX.1-2024 make, "Target Rules"; GNU make manual, "How
-- `make` Processes a Makefile"; what is refused is kati's own).
use Rattle.std.specs.Prelude.{◌≡◌, ◌↔◌, Bool, true, false, List, [], ◌∷◌, map, find, Option, Some}
use Rattle.kt_graph.specs.Prelude.{None, Contains, IsStrictlySortedBy, nat_cmp, slice_cmp, Text, Entry, Instance, Node}
use Rattle.kt_graph.specs.Prelude.{node_of, is_leaf, all_inputs}
use Rattle.std.specs.declared.cmp.Ordering.TheVariants.{Less}
use Rattle.kt_graph.specs.faults.Paths.{canon_of, is_reserved}

-- ---- paths

-- steps that lead from one to another, each an edge from the one before it
abbrev pub Leads : {A : Type 0} → (A → A → Type 0) → A → List A → A → Type 0
Leads Edge from [] to = from ≡ to
Leads Edge from (step ∷ steps) to = Edge from step × Leads Edge step steps to

-- a path, maybe without a step, leads from one name to another
abbrev pub Reaches : {A : Type 0} → (A → A → Type 0) → A → A → Type 0
Reaches {A} Edge from to = (steps : List A) × Leads Edge from steps to

-- ---- reach

-- a name is an input of another, maybe an order-only one
abbrev pub HasInput : List Entry → List Text → Text → Text → Type 0
HasInput rules known name input = Contains (all_inputs (node_of rules known name)) input

-- Reach: the goals and what they need; this is the least set that has the goals and, with a name, its inputs
pub record IsReached (rules : List Entry) (known goals : List Text) (name : Text) : Type 0 where
  pub goal : Text
  pub named : Contains goals goal
  pub path : Reaches (HasInput rules known) goal name

-- ---- groups

-- two names are made by one making
pub record AreOneMaking (rules : List Entry) (known : List Text) (one other : Text) : Type 0 where
  pub making : Instance
  pub first : (node_of rules known one).made_with ≡ Some making
  pub second : (node_of rules known other).made_with ≡ Some making

-- Group: the reached names that one making makes; a name without such a making is a group alone
pub data IsInGroup (rules : List Entry) (known goals : List Text) (name : Text) : Text → Type 0 where
  itself : IsInGroup rules known goals name name
  beside : {other : Text} → IsReached rules known goals other → AreOneMaking rules known name other
      → IsInGroup rules known goals name other

-- ---- cycles

-- an edge of one member of a group is an edge of all
pub record HasEdge (rules : List Entry) (known goals : List Text) (name input : Text) : Type 0 where
  pub member : Text
  pub grouped : IsInGroup rules known goals name member
  pub needed : HasInput rules known member input

-- Cyclic: a reached name that reaches itself in one step or more
pub record IsCyclic (rules : List Entry) (known goals : List Text) (name : Text) : Type 0 where
  pub reached : IsReached rules known goals name
  pub next : Text
  pub step : HasEdge rules known goals name next
  pub path : Reaches (HasEdge rules known goals) next name

-- ---- other faults

-- a reached name that is reserved for kati
pub record IsReserved (rules : List Entry) (known goals : List Text) (name : Text) : Type 0 where
  pub reached : IsReached rules known goals name
  pub reserved : is_reserved name ≡ true

-- a reached name that a rule makes
pub record IsMade (rules : List Entry) (known goals : List Text) (name : Text) : Type 0 where
  pub reached : IsReached rules known goals name
  pub made : is_leaf (node_of rules known name).kind ≡ false

-- a made name that another made name spells differently
pub record IsDoubled (rules : List Entry) (known goals : List Text) (name : Text) : Type 0 where
  pub made : IsMade rules known goals name
  pub other : Text
  pub other_made : IsMade rules known goals other
  pub differ : ¬ (name ≡ other)
  pub same : canon_of name ≡ canon_of other

-- the first name in byte order that has a property
pub record IsFirst (P : Text → Type 0) (name : Text) : Type 0 where
  pub holds : P name
  pub least : (other : Text) → P other → ¬ (slice_cmp nat_cmp other name ≡ Less)

-- ---- what is wrong, and what comes first

-- what may be wrong with a graph: a goal that no rule makes, a cycle, a reserved name, two targets of one file
pub data Trouble : Type 0 where
  no_rule : (goal : Text) → Trouble
  circular : (name : Text) → Trouble
  reserved_name : Trouble
  one_file : (name : Text) → Trouble

-- whether no rule makes a goal
abbrev pub is_unmade : List Entry → List Text → Text → Bool
is_unmade rules known goal = is_leaf (node_of rules known goal).kind

-- the first goal that no rule makes
abbrev pub unmade_goal : List Entry → List Text → List Text → Option Text
unmade_goal rules known goals = find (is_unmade rules known) goals

-- a rule makes each goal
pub record HasMadeGoals (rules : List Entry) (known goals : List Text) : Type 0 where
  pub made : unmade_goal rules known goals ≡ None

-- a rule makes each goal, and no reached name is cyclic
pub record HasNoCycle (rules : List Entry) (known goals : List Text) : Type 0 where
  pub goals_made : HasMadeGoals rules known goals
  pub uncircled : (name : Text) → ¬ IsCyclic rules known goals name

-- a rule makes each goal, and no reached name is cyclic or reserved
pub record HasNoReserved (rules : List Entry) (known goals : List Text) : Type 0 where
  pub uncircled : HasNoCycle rules known goals
  pub free : (name : Text) → ¬ IsReserved rules known goals name

-- nothing is wrong: a rule makes each goal, no reached name is cyclic or reserved, and no two made names are one file
pub record IsSound (rules : List Entry) (known goals : List Text) : Type 0 where
  pub free : HasNoReserved rules known goals
  pub single : (name : Text) → ¬ IsDoubled rules known goals name

-- the first thing that is wrong, if anything is
abbrev pub ComesFirst : List Entry → List Text → List Text → Option Trouble → Type 0
ComesFirst rules known goals (Some (no_rule goal)) = unmade_goal rules known goals ≡ Some goal
ComesFirst rules known goals (Some (circular name)) =
    HasMadeGoals rules known goals × IsFirst (IsCyclic rules known goals) name
ComesFirst rules known goals (Some reserved_name) =
    HasNoCycle rules known goals × ((name : Text) × IsReserved rules known goals name)
ComesFirst rules known goals (Some (one_file name)) =
    HasNoReserved rules known goals × IsFirst (IsDoubled rules known goals) name
ComesFirst rules known goals None = IsSound rules known goals

-- ---- the graph

-- the nodes of all reached names, in byte order, and no others
pub record IsGraph (rules : List Entry) (known goals : List Text) (nodes : List Node) : Type 0 where
  pub rises : IsStrictlySortedBy (slice_cmp nat_cmp) (map (λ node. node.name) nodes)
  pub reached : (name : Text) → Contains (map (λ node. node.name) nodes) name ↔ IsReached rules known goals name
  pub stored : nodes ≡ map (node_of rules known) (map (λ node. node.name) nodes)
