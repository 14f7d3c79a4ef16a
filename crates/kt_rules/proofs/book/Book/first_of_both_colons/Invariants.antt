use Rattle.std.proofs.Common.{◌≡◌, find, filter}
use Rattle.kt_rules.proofs.Common.{list_any, is_made, differ_in_colons, rules_of, both_colons_in, targets_view}
use Rattle.kt_rules.proofs.book.Book.first_of_both_colons.Given as goal

abbrev pub invariant-loop-target : goal.invariant-loop-target
invariant-loop-target l =
    find (λ target. list_any (differ_in_colons l.entry) (rules_of l.self target.name)) (filter (is_made l.entry) (targets_view l.target-iterator)) ≡ both_colons_in l.self l.entry
