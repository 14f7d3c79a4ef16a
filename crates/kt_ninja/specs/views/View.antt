-- A plan that is seen by places (kati's own).
use Rattle.std.specs.Prelude.{ℕ, List, [], Option, Some, None, slice_get}
use Rattle.kt_ninja.specs.Prelude.{Made, Phony, Statement, Plan}
use Rattle.kt_ninja.specs.declared.view.PlanNames.{PlanNames}
use Rattle.kt_ninja.specs.declared.view.PlanNames.TheVariants.{Outputs, Inputs, Implicit, OrderOnly, Defaults}

-- some of the names of a statement, and none where there is no statement
abbrev pub statement_names : (Statement → List (List ℕ)) → Option Statement → List (List ℕ)
statement_names names None = []
statement_names names (Some s) = names s

-- the names of one list of a plan
abbrev pub names_listed : Plan → PlanNames → List (List ℕ)
names_listed plan (Outputs place) = statement_names (λ s. s.outs) (slice_get plan.statements place)
names_listed plan (Inputs place) = statement_names (λ s. s.inputs) (slice_get plan.statements place)
names_listed plan (Implicit place) = statement_names (λ s. s.implicit) (slice_get plan.statements place)
names_listed plan (OrderOnly place) = statement_names (λ s. s.order_only) (slice_get plan.statements place)
names_listed plan Defaults = plan.defaults

-- how the statement at a place is made
abbrev pub made_at : Option Statement → Made
made_at None = Phony
made_at (Some s) = s.made
