-- What an answer says of a plan that can't be written (kati's own).
use Rattle.std.specs.Prelude.{ℕ, not, List, [], ◌∷◌, ◌++◌, Option, Some, None, option_map, Result, Ok, Err, find}
use Rattle.std.specs.Prelude.{if◌then◌else◌}
use Rattle.std.specs.List.{position_from}
use Rattle.kt_ninja.specs.Prelude.{option_or, Plan}
use Rattle.kt_list.specs.Names.{is_among}
use Rattle.kt_ninja.specs.declared.checking.Unwritable.{Unwritable}
use Rattle.kt_ninja.specs.declared.checking.Unwritable.TheVariants as told
use Rattle.kt_ninja.specs.Plan.{outputs}
use Rattle.kt_ninja.specs.Writable.{is_empty, Obstacle, not_an_output, no_output, bad_name, repeated, bad_command}
use Rattle.kt_ninja.specs.Writable.{obstacle_of_statements}

-- the first name of a list that is among those before it, or among these
abbrev pub repeated_after : List (List ℕ) → List (List ℕ) → Option (List ℕ)
repeated_after before [] = None
repeated_after before (n ∷ ns) = if is_among before n then Some n else repeated_after (before ++ n ∷ []) ns

-- the first default target that is no output
abbrev pub not_made : List (List ℕ) → List (List ℕ) → Option (List ℕ)
not_made outs defaults = find (λ d. not (is_among outs d)) defaults

-- what first keeps a plan from being written: a statement without output, then names and commands, statement by
-- statement, then an output that stands twice, then a default target that is no output
abbrev pub first_obstacle : Plan → Option Obstacle
first_obstacle plan =
    option_or (option_map no_output (position_from (λ s. is_empty s.outs) 0 plan.statements))
    (option_or (obstacle_of_statements 0 plan.statements)
    (option_or (option_map repeated (repeated_after [] (outputs plan.statements)))
    (option_map not_an_output (not_made (outputs plan.statements) plan.defaults))))

-- what an answer tells
abbrev pub told_obstacle : Unwritable → Obstacle
told_obstacle (told.NoOutput number) = no_output number
told_obstacle (told.BadName name) = bad_name name.now
told_obstacle (told.BadCommand number) = bad_command number
told_obstacle (told.Repeated name) = repeated name.now
told_obstacle (told.NotAnOutput name) = not_an_output name.now

abbrev pub obstacle_in : Result (Unit {0}) Unwritable → Option Obstacle
obstacle_in (Ok _) = None
obstacle_in (Err e) = Some (told_obstacle e)
