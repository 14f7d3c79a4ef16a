-- What a plan holds (kati's own; Ninja manual, "Build statements").
use Rattle.std.specs.Prelude.{ℕ, List, ◌++◌, Option, Some, None}
use Rattle.kt_ninja.specs.Prelude.{flat_map, Statement, Made, Command, Phony}

-- the outputs of all statements, in order
abbrev pub outputs : List Statement → List (List ℕ)
outputs statements = flat_map (λ s. s.outs) statements

-- the names that a statement speaks of, in the order of its build line
abbrev pub names_of : Statement → List (List ℕ)
names_of s = s.outs ++ (s.inputs ++ (s.implicit ++ s.order_only))

-- how a statement is made, by its command, if it has one
abbrev pub made_by : Option (List ℕ) → Made
made_by None = Phony
made_by (Some command) = Command command
