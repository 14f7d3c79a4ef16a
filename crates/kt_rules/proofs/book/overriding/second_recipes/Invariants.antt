use Rattle.std.proofs.Common.{◌≡◌, ◌++◌, filter, is_some, map}
use Rattle.kt_rules.proofs.Common.{entry_view, first_found, is_made, override_message, spots_at}
use Rattle.kt_rules.specs.inner.Slots.{found_targets}
use Rattle.kt_rules.proofs.lemmas.book.NumberedLemmas.{targets_from}
use Rattle.kt_rules.proofs.book.overriding.second_recipes.Given as goal

abbrev pub invariant-loop-number : goal.invariant-loop-number
invariant-loop-number l =
    let names = l.rule.names.now in
    let rule = entry_view l.rule in
    l.warnings.items ++ map (override_message rule.place)
    (filter (λ target. is_some (first_found l.rules.1 (spots_at (names, l.recipes) target.name))) (filter (is_made rule) (targets_from l.rule l.number-index)))
    ≡ map (override_message rule.place) (found_targets l.rules.1 (names, l.recipes) rule)
