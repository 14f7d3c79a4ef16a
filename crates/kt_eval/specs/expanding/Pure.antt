-- A text expanded after all reading, as recipes are: it leaves only messages (GNU make manual, "How to Use Variables",
-- "Using Variables in Recipes").
use Rattle.kt_eval.specs.Prelude.{ℕ, false, List, [], Option, Text, Place, Store, Macros, frozen_world, StepOver}
use Rattle.kt_eval.specs.Prelude.{leaving}
use Rattle.kt_eval.specs.expanding.Expansion.{expanded}
use Rattle.kt_eval.specs.expanding.Levels.{evaluator}

-- a text expanded with these macros and automatic ones, at this place, with a given number of levels; no macro is set,
-- and no file asked for
abbrev pub expanded_pure : Macros → Store → Option Place → ℕ → Text → StepOver (List Text) Text
expanded_pure table automatic place limit text said =
    leaving (λ w. w.said) (expanded (evaluator false [] limit) text (frozen_world table automatic place said))
