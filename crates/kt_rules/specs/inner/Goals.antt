-- The default goal among the targets of one rule (kati's own).
use Rattle.std.specs.Prelude.{List, find, Option, option_map}
use Rattle.kt_rules.specs.Prelude.{Text, Entry}
use Rattle.kt_rules.specs.Book.{target_rules, is_goal}

-- the first target of one rule that may be the default goal
abbrev pub goal_in : List Text → Entry → Option Text
goal_in suffixes rule = option_map (λ made. made.1.name) (find (is_goal suffixes) (target_rules rule))
