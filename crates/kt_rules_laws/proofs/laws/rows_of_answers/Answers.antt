use Rattle.kt_rules.proofs.Common.{refl, is_separator, words_of, is_without_effect, is_special, start_suffixes, rules_of, recipes_of, explicit_rules, is_phony, first_goal_by, refusal_of, patterns_of}
use Rattle.kt_rules_laws.proofs.laws.rows_of_answers.Goals as goal

pub returns : goal.returns
unfolding is_separator words_of is_without_effect is_special start_suffixes rules_of recipes_of explicit_rules is_phony first_goal_by refusal_of patterns_of
returns c = record { order_only_phony = refl; no_target = refl; first_goal = refl }
