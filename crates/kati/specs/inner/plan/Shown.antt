-- The plan in the code's own types (kati's own).
use Rattle.std.specs.Prelude.{List, [], ◌∷◌, Option, Some, None, get_or}
use Rattle.kati.specs.Prelude.{Text, Statement, Plan}
use Rattle.kati.specs.declared.plan.name_list.NameList.{NameList}
use Rattle.kati.specs.declared.plan.name_list.NameList.TheVariants as lists
use Rattle.kati.specs.declared.plan.graph_plan.GraphPlan.{GraphPlan}
use Rattle.kati.specs.declared.plan.graph_plan.PlanPart.{PlanPart}
use Rattle.kati.specs.declared.plan.graph_plan.PlanPart.TheVariants as parts
use Rattle.kati.specs.plan.Planning.{always_build, always_built, outs_of}
use Rattle.kati.specs.inner.plan.Drawn.{always_drawn, no_drawn, statement_drawn, statements_drawn}

-- the plan
abbrev pub plan_view : GraphPlan → Plan
plan_view plan = record {
  statements = always_drawn plan.always (statements_drawn plan.groups plan.sketch);
  defaults = plan.goals.items;
}

-- ---- the names of a statement

abbrev pub name_list_view : NameList → List Text
name_list_view lists.Empty = []
name_list_view lists.AlwaysBuild = always_build ∷ []
name_list_view (lists.Members nodes) = outs_of nodes.now
name_list_view (lists.Needs inputs) = inputs
name_list_view (lists.Names names) = names.now

-- the statement of a part of the plan, if it has one
abbrev pub plan_part_view : PlanPart → Option Statement
plan_part_view parts.Missing = None
plan_part_view parts.Always = Some always_built
plan_part_view (parts.Group nodes sketch place) = Some (statement_drawn nodes.now (get_or sketch.now place no_drawn))
