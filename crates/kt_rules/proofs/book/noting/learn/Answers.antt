use Rattle.kt_rules.proofs.Common.{List, subst, Text, GrewIn, on_err}
use Rattle.kt_rules.proofs.book.noting.learn.Goals as goal

pub returns-in_err-learn_rule-in-Some-clause-targets_refused : goal.returns-in_err-learn_rule-in-Some-clause-targets_refused
returns-in_err-learn_rule-in-Some-clause-targets_refused c =
    on_err c.from_residual-in_err-learn_rule-in-Some.result
    (subst (λ (names : List Text). GrewIn c.args.place (names, c.args.spots.now.targets) (names, c.learn_rule.new.spots.targets))
    c.in-Some.ensures.names c.in_err-learn_rule-in-Some.ensures.targets_refused)

pub returns-in_err-learn_rule-in-Some-clause-recipes_refused : goal.returns-in_err-learn_rule-in-Some-clause-recipes_refused
returns-in_err-learn_rule-in-Some-clause-recipes_refused c =
    on_err c.from_residual-in_err-learn_rule-in-Some.result
    (subst (λ (names : List Text). GrewIn c.args.place (names, c.args.spots.now.recipes) (names, c.learn_rule.new.spots.recipes))
    c.in-Some.ensures.names c.in_err-learn_rule-in-Some.ensures.recipes_refused)
