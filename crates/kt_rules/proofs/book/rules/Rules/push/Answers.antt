use Rattle.std.proofs.Common.{◌∙◌, ◌++◌, ◌∷◌, [], List, option_map, refl, unwrap_or, subst, sym, ap}
use Rattle.kt_rules.proofs.Common.{is_some-map, Text, on_err, RecipeLine, Entry, AreHeld, AreRuleNumbers, rules_held}
use Rattle.kt_rules.proofs.lemmas.book.HeldLemmas.{grown_held, grown_rules, pushed_held, pushed_rule}
use Rattle.kt_rules.specs.declared.book.row.Row.{Row}
use Rattle.kt_rules.proofs.book.rules.Rules.push.Goals as goal

pub invariant_of-self-in_err-numbers : goal.invariant_of-self-in_err-numbers
invariant_of-self-in_err-numbers c =
    let held = c.self.inside in
    let new = c.number_rule.new.dictionary in
    subst (λ (rows : List Row). AreHeld new held.lines rows held.kinds held.last) (sym c.in_ok-reserve.ensures.items)
    (grown_held held.dictionary new held.lines held.rows.items held.kinds held.last c.in_err-numbers.ensures.grown c.self.invariant)

pub returns-in_err-numbers-clause-refused : goal.returns-in_err-numbers-clause-refused
returns-in_err-numbers-clause-refused c =
    let held = c.self.inside in
    let new = c.number_rule.new.dictionary in
    on_err c.from_residual-in_err-numbers.result
    ((λ j. rules_held new held.lines (c.in_ok-reserve.ensures.items j))
    ∙ grown_rules held.dictionary new held.lines held.rows.items held.kinds held.last c.in_err-numbers.ensures.grown c.self.invariant
    ∙ ap (λ (both : List Text × List Entry). both.1) c.self.view_is)

pub invariant_of-self-in_err-add_lines : goal.invariant_of-self-in_err-add_lines
invariant_of-self-in_err-add_lines c =
    let held = c.self.inside in
    let new = c.number_rule.new.dictionary in
    subst (λ (lines : List (List RecipeLine)). AreHeld new lines c.reserve.new.self.items held.kinds held.last) (sym c.in_err-add_lines.ensures.refused)
    (subst (λ (rows : List Row). AreHeld new held.lines rows held.kinds held.last) (sym c.in_ok-reserve.ensures.items)
    (grown_held held.dictionary new held.lines held.rows.items held.kinds held.last c.in_ok-numbers.ensures.grown c.self.invariant))

pub returns-in_err-add_lines-clause-refused : goal.returns-in_err-add_lines-clause-refused
returns-in_err-add_lines-clause-refused c =
    let held = c.self.inside in
    let new = c.number_rule.new.dictionary in
    on_err c.from_residual-in_err-add_lines.result
    ((λ j. rules_held new (c.in_err-add_lines.ensures.refused j) (c.in_ok-reserve.ensures.items j))
    ∙ grown_rules held.dictionary new held.lines held.rows.items held.kinds held.last c.in_ok-numbers.ensures.grown c.self.invariant
    ∙ ap (λ (both : List Text × List Entry). both.1) c.self.view_is)

pub invariant_of-self-2 : goal.invariant_of-self-2
invariant_of-self-2 c =
    let held = c.self.inside in
    let entry = c.entry.inside in
    let new = c.number_rule.new.dictionary in
    let numbers = c.in_ok-numbers.numbers in
    let row : Row = record { place = entry.place; numbers = numbers; kind = entry.kind; has_recipe = c.is_some-has_recipe.result } in
    pushed_held held.dictionary new held.lines c.add_lines.new.lines held.rows.items c.push_reserved.new.self.items held.kinds held.last
    (unwrap_or (option_map (λ own. own.items) entry.recipe) []) row entry.targets entry.pattern entry.needs c.in_ok-numbers.ensures.grown c.self.invariant
    (subst (λ (targets : List Text). AreRuleNumbers new targets entry.pattern entry.needs numbers) c.as_slice.ensures (c.in_ok-numbers.ensures.numbered c.self.invariant.remembered))
    c.in_ok-add_lines.ensures.added (c.push_reserved.ensures.items ∙ (λ j. c.in_ok-reserve.ensures.items j ++ row ∷ []))
    c.with-self-inside.result c.remember.new.last c.with-self-inside.ensures.quick_kept c.with-self-inside.ensures.quick_added
    (λ before. c.remember.ensures.quick new before (c.in_ok-numbers.ensures.numbered c.self.invariant.remembered).of_needs)

pub returns-clause-pushed : goal.returns-clause-pushed
returns-clause-pushed c =
    let held = c.self.inside in
    let entry = c.entry.inside in
    let new = c.number_rule.new.dictionary in
    let numbers = c.in_ok-numbers.numbers in
    let recipe = option_map (λ own. own.items) entry.recipe in
    let row : Row = record { place = entry.place; numbers = numbers; kind = entry.kind; has_recipe = c.is_some-has_recipe.result } in
    pushed_rule held.dictionary new held.lines c.add_lines.new.lines held.rows.items c.push_reserved.new.self.items held.kinds held.last
    (unwrap_or recipe []) row entry.targets entry.pattern entry.needs c.in_ok-numbers.ensures.grown c.self.invariant
    (subst (λ (targets : List Text). AreRuleNumbers new targets entry.pattern entry.needs numbers) c.as_slice.ensures (c.in_ok-numbers.ensures.numbered c.self.invariant.remembered))
    c.in_ok-add_lines.ensures.added (c.push_reserved.ensures.items ∙ (λ j. c.in_ok-reserve.ensures.items j ++ row ∷ []))
    recipe (c.is_some-has_recipe.ensures ∙ sym (is_some-map (λ own. own.items) entry.recipe)) refl
    ∙ (λ j. ap (λ (both : List Text × List Entry). both.1) c.self.view_is j ++ c.entry.view_is j ∷ [])
