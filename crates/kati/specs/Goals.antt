-- The goals (GNU make manual, "Arguments to Specify the Goals", "Other Special Variables", on `.DEFAULT_GOAL`).
use Rattle.std.specs.Prelude.{ℕ, List, [], ◌∷◌, None, codes}
use Rattle.kati.specs.Prelude.{Text, NoTargets, Makefile, Macros}
use Rattle.kt_eval.specs.Outcome.{StepOver, ◌>>=◌, done, stop_at}
use Rattle.kt_eval.specs.expanding.Pure.{expanded_pure}
use Rattle.kt_graph.specs.Goals.{default_goals, named_goals}
use Rattle.kati.specs.Steps.{fault_nowhere}

-- the goals, or the fault that there is no target
abbrev pub goals_or_none : List Text → StepOver (List Text) (List Text)
goals_or_none [] = stop_at (fault_nowhere NoTargets [])
goals_or_none (goal ∷ goals) = done (goal ∷ goals)

-- the macro that names the goal is expanded at level 0, at no place and without automatic macros (kati's own)
unfoldable pub default_goal_text : ℕ → Macros → StepOver (List Text) Text
default_goal_text limit table = expanded_pure table [] None limit (codes "$(.DEFAULT_GOAL)")

-- the goals of the command line, or the one that the makefile names or begins with
abbrev pub chosen_goals : ℕ → Makefile → List Text → StepOver (List Text) (List Text)
chosen_goals limit read (word ∷ words) = done (named_goals (word ∷ words))
chosen_goals limit read [] = do
  text ← default_goal_text limit read.table
  goals_or_none (default_goals read.book text)
