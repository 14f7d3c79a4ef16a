use Rattle.std.proofs.Common.{◌≡◌}
use Rattle.kt_rules.proofs.Common.{first_goal_by}
use Rattle.kt_rules.proofs.book.goal.first_goal.Given as goal

abbrev pub invariant-loop-entry : goal.invariant-loop-entry
invariant-loop-entry l = first_goal_by l.suffixes l.entry-iterator ≡ first_goal_by l.suffixes l.rules.1
