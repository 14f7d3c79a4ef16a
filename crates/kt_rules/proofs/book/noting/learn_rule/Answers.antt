use Rattle.kt_rules.proofs.Common.{entry_view, on_err}
use Rattle.kt_rules.proofs.lemmas.book.SpotLemmas.{grew_recipes, grew_spots}
use Rattle.kt_rules.proofs.book.noting.learn_rule.Goals as goal

pub returns-clause-targets_refused : goal.returns-clause-targets_refused
returns-clause-targets_refused c =
    let names = c.args.rule.names.now in
    on_err c.learn_names.result
    (grew_spots (entry_view c.args.rule) c.args.place (names, c.args.spots.now.targets) (names, c.note_targets.new.spots.targets) c.in_ok-note_targets.ensures.targets_noted)

pub returns-clause-recipes_refused : goal.returns-clause-recipes_refused
returns-clause-recipes_refused c =
    let names = c.args.rule.names.now in
    on_err c.learn_names.result
    (grew_recipes (entry_view c.args.rule) c.args.place (names, c.args.spots.now.recipes) (names, c.note_targets.new.spots.recipes) c.in_ok-note_targets.ensures.recipes_noted)
