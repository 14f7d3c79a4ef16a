-- The goals (GNU make manual, "Arguments to Specify the Goals", "Other Special Variables", on `.DEFAULT_GOAL`; "How
-- `make` Processes a Makefile").
use Rattle.std.specs.Prelude.{List, [], ◌∷◌, map, option_to_list, if◌then◌else◌}
use Rattle.kt_graph.specs.Prelude.{Text, is_nonempty, stripped, without_dots, without_repeats, Entry, first_goal_of}

-- the goals of a command line, each once; an empty word is one, too
unfoldable pub named_goals : List Text → List Text
named_goals words = without_repeats (map without_dots words)

-- the goal if the command line has none: the name that a text is, or else the first target
unfoldable pub default_goals : List Entry → Text → List Text
default_goals rules text =
    if is_nonempty (stripped text) then without_dots (stripped text) ∷ [] else option_to_list (first_goal_of rules)
