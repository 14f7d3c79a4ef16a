-- What the statements of a plan are: the graph of what the goals need, and nothing else (kati's own; Ninja manual,
-- "Build statements").
use Rattle.std.specs.Prelude.{◌≡◌, ◌≢◌, ◌⊎◌, ℕ, true, List, [], map, Option}
use Rattle.kati.specs.Prelude.{AllPairs, Contains, list_any, Text, Store, Makefile, Trace, traced, Gave, Macros}
use Rattle.kati.specs.Prelude.{IsSoundGraph, groups_of, Node, IsMade, outputs, Plan, Statement, Args}
use Rattle.std.specs.List.Sorted.{IsStrictlySortedBy}
use Rattle.std.specs.Ordering.{nat_cmp}
use Rattle.std.specs.Cmp.Lexicographic.{slice_cmp}
use Rattle.kati.specs.Meaning.{WantedGoals, prepared}
use Rattle.kati.specs.plan.Planning.{always_build, always_built, command_for, first_output, has_implicit, statement_of}
use Rattle.kati.specs.plan.Planning.{with_always_built}

-- the command of a group's least member, whatever messages come before it
pub record IsGroupCommand (table : Macros) (limit : ℕ) (group : List Node) (command : Option Text) : Type 0 where
  pub said : List Text
  pub heard : List Text
  pub expanded : command_for table limit group said ≡ Gave heard command

-- a statement has the outputs, the inputs, the order-only inputs and the command of one of the groups
pub record IsOfGroup (read : Makefile) (limit : ℕ) (groups : List (List Node)) (statement : Statement) : Type 0 where
  pub group : List Node
  pub among : Contains groups group
  pub command : Option Text
  pub is_command : IsGroupCommand read.table limit group command
  pub is : statement ≡ statement_of read.book group command

-- a name is an output of exactly one of the statements
pub record IsMadeOnce (statements : List Statement) (name : Text) : Type 0 where
  pub statement : Statement
  pub among : Contains statements statement
  pub stands : Contains statement.outs name
  pub single : (other : Statement) → Contains statements other → Contains other.outs name → other ≡ statement

-- the statement `always_built`, which is there only if another one needs it
abbrev pub IsAlwaysBuilt : List Statement → Statement → Type 0
IsAlwaysBuilt statements statement = (statement ≡ always_built) × (list_any has_implicit statements ≡ true)

-- the statements of groups, in byte order of their least outputs, after `always_built` if one of them needs it
pub record StandInOrder (statements : List Statement) : Type 0 where
  pub groups : List Statement
  pub are : statements ≡ with_always_built groups
  pub rise : IsStrictlySortedBy (slice_cmp nat_cmp) (map (λ statement. first_output statement.outs) groups)

-- a plan is exactly the graph of the goals. Each target that a rule makes and the goals reach is an output once, no
-- output but `always_build` is added, and the default targets are the goals
pub record TellsGraph (read : Makefile) (limit : ℕ) (known goals : List Text) (plan : Plan) : Type 0 where
  pub nodes : List Node
  pub graph : IsSoundGraph read.book known goals nodes
  -- each target that a rule makes and the goals reach has its statement
  pub each : (name : Text) → IsMade read.book known goals name → IsMadeOnce plan.statements name
  -- no name is an output twice, so no statement is repeated
  pub different : AllPairs (λ one other. one ≢ other) (outputs plan.statements)
  -- and there is no other output and no other statement
  pub only : (name : Text) → Contains (outputs plan.statements) name → IsMade read.book known goals name
      ⊎ (name ≡ always_build)
  pub grouped : (statement : Statement) → Contains plan.statements statement
      → IsOfGroup read limit (groups_of nodes) statement ⊎ IsAlwaysBuilt plan.statements statement
  -- `always_built` is there if one needs it
  pub always : list_any has_implicit plan.statements ≡ true → Contains plan.statements always_built
  pub ordered : StandInOrder plan.statements
  pub defaults : plan.defaults ≡ goals

-- a plan is the graph of the goals that the list, the makefile and the arguments give
pub record IsGraphOf (args : Args) (store : Store) (asked : List Text) (plan : Plan) : Type 0 where
  pub want : WantedGoals
  pub trace : Trace
  pub is_prepared : prepared args store (traced [] asked) ≡ Gave trace want
  pub tells : TellsGraph want.read args.limit want.known want.goals plan
