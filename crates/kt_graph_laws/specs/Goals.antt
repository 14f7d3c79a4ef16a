-- The goals of a run (GNU make manual, "Arguments to Specify the Goals", "Other Special Variables", on `.DEFAULT_GOAL`; "How
-- `make` Processes a Makefile").
use Rattle.std.specs.Prelude.{List, [], ◌∷◌}
use Rattle.kt_graph.specs.Prelude.{Text, Entry}
use Rattle.kt_graph.specs.Goals.{named_goals, default_goals}

-- the goals; without one there is nothing to do
abbrev pub goals_of : List Entry → List Text → Text → List Text
goals_of rules [] text = default_goals rules text
goals_of rules (word ∷ words) text = named_goals (word ∷ words)
