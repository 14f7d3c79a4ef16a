-- The plan of what goals need (Ninja manual, "Build statements", "Build dependencies", "Default target statements";
-- which statements there are, their order and the name `always_build` are kati's own).
use Rattle.std.specs.Prelude.{ℕ, Bool, not, ◌&&◌, List, [], ◌∷◌, ◌++◌, map, filter, flat_map, Option, Some, None}
use Rattle.std.specs.Prelude.{is_some, slice_get, if◌then◌else◌}
use Rattle.kati.specs.Prelude.{list_any, Text, Entry, Fault, CommandNotWritable, NameNotWritable, Macros, Node, inputs_of}
use Rattle.kati.specs.Prelude.{order_only_of, groups_of, always_name, Statement, Plan, obstacle_of_statements}
use Rattle.std.specs.Option.{option_and_then, option_map_or}
use Rattle.kt_rules.specs.Names.{is_among, without_repeats}
use Rattle.kt_rules.specs.Book.{is_phony}
use Rattle.kt_eval.specs.Outcome.{StepOver, ◌>>=◌, done, stop_at}
use Rattle.kt_recipe.specs.Shell.{shell_of}
use Rattle.kt_ninja.specs.Plan.{made_by}
use Rattle.kt_ninja.specs.declared.plan.Made.TheVariants.{Phony}
use Rattle.kt_ninja.specs.Writable.{Obstacle, is_empty, no_output, bad_name, bad_command, repeated, not_an_output}
use Rattle.kati.specs.Steps.{fault_nowhere}

-- the target that never exists, so that what needs it is always made
abbrev pub always_build : Text
always_build = always_name

-- ---- the parts of a group's statement

-- the outputs of a group's statement: the names of its members
abbrev pub outs_of : List Node → List Text
outs_of group = map (λ node. node.name) group

-- the inputs of the members in order, each once
abbrev pub joined_inputs : List Node → List Text
joined_inputs group = without_repeats (flat_map inputs_of group)

-- the order-only inputs of the members, each once, without the inputs
abbrev pub joined_order_only : List Node → List Text
joined_order_only group =
    filter (λ name. not (is_among (joined_inputs group) name)) (without_repeats (flat_map order_only_of group))

-- whether a member of a group is a phony target
abbrev pub has_phony : List Entry → List Node → Bool
has_phony rules group = list_any (λ node. is_phony rules node.name) group

-- the implicit inputs of a statement: `always_build` if its command is always run, and otherwise none
abbrev pub implicit_of : Bool → List Text
implicit_of always = if always then always_build ∷ [] else []

-- the statement of a group with this command, which is always run if a member is phony [Phony Targets]
unfoldable pub statement_of : List Entry → List Node → Option Text → Statement
statement_of rules group command = record {
  outs = outs_of group;
  made = made_by command;
  inputs = joined_inputs group;
  implicit = implicit_of (is_some command && has_phony rules group);
  order_only = joined_order_only group;
}

-- ---- statements one after another

-- the command of a group, if it has one: that of its least member, which comes first
abbrev pub command_for : Macros → ℕ → List Node → StepOver (List Text) (Option Text)
command_for table limit [] = done None
command_for table limit (least ∷ others) = shell_of table limit least

-- a statement for each group, after the given ones
unfoldable pub plan_groups : List Entry → Macros → ℕ → List (List Node) → List Statement
    → StepOver (List Text) (List Statement)
plan_groups rules table limit [] before = done before
plan_groups rules table limit (group ∷ groups) before = do
  command ← command_for table limit group
  plan_groups rules table limit groups (before ++ statement_of rules group command ∷ [])

-- ---- the plan

-- whether a statement has an implicit input
abbrev pub has_implicit : Statement → Bool
has_implicit statement = not (is_empty statement.implicit)

-- the statement whose output is `always_build`: it has no command and needs nothing
abbrev pub always_built : Statement
always_built = record { outs = always_build ∷ []; made = Phony; inputs = []; implicit = []; order_only = [] }

-- the statement `always_built` comes first, if one needs it
unfoldable pub with_always_built : List Statement → List Statement
with_always_built statements = if list_any has_implicit statements then always_built ∷ statements else statements

-- the plan of these statements, whose default targets are the goals
abbrev pub plan_of : List Statement → List Text → Plan
plan_of statements goals = record { statements = with_always_built statements; defaults = goals }

-- ---- what can't be written

-- the first of these outputs, or an empty text if there is none
abbrev pub first_output : List Text → Text
first_output [] = []
first_output (name ∷ names) = name

-- the first output of the statement with this number, from 0; it is the group's least name
abbrev pub least_output : List Statement → ℕ → Text
least_output statements number = option_map_or
    (λ statement. first_output statement.outs) (slice_get statements number) []

-- the fault for a name or a command that can't be written; `unwritable_in` meets no other obstacle
abbrev pub text_fault : List Statement → Obstacle → Option Fault
text_fault statements (bad_name name) = Some (fault_nowhere NameNotWritable name)
text_fault statements (bad_command number) = Some (fault_nowhere CommandNotWritable (least_output statements number))
text_fault statements (no_output number) = None
text_fault statements (repeated name) = None
text_fault statements (not_an_output name) = None

-- the first name or command that can't be written, statement by statement, with names first
unfoldable pub unwritable_in : List Statement → Option Fault
unwritable_in statements = option_and_then (text_fault statements) (obstacle_of_statements 0 statements)

-- the plan, unless there is a fault
abbrev pub plan_unless : Plan → Option Fault → StepOver (List Text) Plan
plan_unless plan None = done plan
plan_unless plan (Some fault) = stop_at fault

-- the plan, or the fault of its first name or command that can't be written
unfoldable pub written : Plan → StepOver (List Text) Plan
written plan = plan_unless plan (unwritable_in plan.statements)

-- ---- the whole

-- the plan of these nodes, which goals need
unfoldable pub planned : List Entry → Macros → ℕ → List Text → List Node → StepOver (List Text) Plan
planned rules table limit goals nodes = do
  statements ← plan_groups rules table limit (groups_of nodes) []
  written (plan_of statements goals)
