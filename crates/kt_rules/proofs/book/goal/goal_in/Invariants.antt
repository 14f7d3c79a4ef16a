use Rattle.std.proofs.Common.{◌≡◌, find, filter, map}
use Rattle.kt_rules.proofs.Common.{is_goal, is_made, goal_in, option_map, entry_view, targets_view}
use Rattle.kt_rules.proofs.book.goal.goal_in.Given as goal

abbrev pub invariant-loop-target : goal.invariant-loop-target
invariant-loop-target l =
    option_map (λ made. made.1.name) (find (is_goal l.suffixes) (map (λ target. ((entry_view l.entry), target)) (filter (is_made (entry_view l.entry)) (targets_view l.target-iterator)))) ≡ goal_in l.suffixes (entry_view l.entry)
