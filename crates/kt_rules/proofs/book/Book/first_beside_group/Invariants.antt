use Rattle.std.proofs.Common.{◌≡◌, find, filter}
use Rattle.kt_rules.proofs.Common.{list_any, is_made, is_beside_group, recipes_of, beside_group_in, targets_view}
use Rattle.kt_rules.proofs.book.Book.first_beside_group.Given as goal

abbrev pub invariant-loop-target : goal.invariant-loop-target
invariant-loop-target l =
    find (λ target. list_any (is_beside_group l.entry) (recipes_of l.self target.name)) (filter (is_made l.entry) (targets_view l.target-iterator)) ≡ beside_group_in l.self l.entry
