use Rattle.kt_rules.proofs.Common.{refl, is_separator, words_of, is_without_effect, is_special, start_suffixes, rules_of, recipes_of, explicit_rules, is_phony, first_goal_by, refusal_of, patterns_of}
use Rattle.kt_rules_laws.proofs.laws.rows_of_pattern_rules.Goals as goal

pub returns : goal.returns
unfolding is_separator words_of is_without_effect is_special start_suffixes rules_of recipes_of explicit_rules is_phony first_goal_by refusal_of patterns_of
returns c = record { last_of_three = refl; in_both_lists = refl }
