use Rattle.std.proofs.Common.{◌∙◌, ◌++◌, ◌∷◌, ◌+◌, ◌&&◌, if◌then◌else◌, List, [], Bool, is_some, filter, map, get_or, ap, sym}
use Rattle.kt_rules.proofs.Common.{append_assoc, Text, Target, entry_view, first_found, is_made, numbered_target, override_message, spots_at}
use Rattle.kt_rules.proofs.lemmas.book.FindLemmas.{filter_left}
use Rattle.kt_rules.proofs.lemmas.book.NumberedLemmas.{targets_from, targets_left}
use Rattle.kt_rules.proofs.book.overriding.second_recipes.Goals as goal

pub loop-number-preserved : goal.loop-number-preserved
loop-number-preserved c =
    let rule = c.args.rule in
    let view = entry_view rule in
    let i = c.loop-number.number-index in
    let target = numbered_target rule (get_or rule.targets.now i 0) in
    let test : Target → Bool = λ t. is_some (first_found c.args.rules.now.1 (spots_at (rule.names.now, c.args.recipes.now) t.name)) in
    let left = map (override_message view.place) (filter test (filter (is_made view) (targets_from rule (i + 1)))) in
    ap (λ (xs : List Text). xs ++ left) c.in_ok-warn.ensures
    ∙ append_assoc c.loop-number.warnings.items (if is_made view target && test target then override_message view.place target ∷ [] else []) left
    ∙ ap (λ (xs : List Text). c.loop-number.warnings.items ++ xs)
    (sym (filter_left (is_made view) test (override_message view.place) (targets_from rule i) (targets_from rule (i + 1)) target (targets_left rule i c.loop-number-test.true)))
    ∙ c.loop-number.invariant
