-- What keeps a statement that is seen by its place from being written (kati's own).
use Rattle.std.specs.Prelude.{ℕ, Option, Some, None, find, not, option_map, if◌then◌else◌}
use Rattle.kt_ninja.specs.Prelude.{option_or, Statement}
use Rattle.kt_ninja.specs.Plan.{names_of}
use Rattle.kt_ninja.specs.Writable.{Obstacle, bad_name, bad_command, is_writable_making, is_name}
use Rattle.kt_ninja.specs.views.View.{statement_names, made_at}

-- what keeps the statement at a place from being written, of its names and its command
abbrev pub obstacle_at : ℕ → Option Statement → Option Obstacle
obstacle_at number found =
    option_or (option_map bad_name (find (λ n. not (is_name n)) (statement_names names_of found)))
    (if is_writable_making (made_at found)
    then None else Some (bad_command number))
