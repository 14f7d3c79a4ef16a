use Rattle.std.proofs.Common.{◌∙◌, is_some, ap, sym}
use Rattle.kt_rules.proofs.Common.{first_found, is_some-map, rule_view}
use Rattle.kt_rules.proofs.lemmas.book.NumberedLemmas.{noted_at}
use Rattle.kt_rules.proofs.book.overriding.has_recipe.Goals as goal

pub returns : goal.returns
returns c =
    c.is_some.ensures ∙ sym (is_some-map rule_view c.first_rule.result)
    ∙ ap is_some (c.first_rule.ensures ∙ ap (first_found c.args.rules.now.1)
    (c.noted.ensures ∙ noted_at c.args.rule.names.now c.args.recipes.now c.args.number c.len-count.ensures.differ c.requires))
