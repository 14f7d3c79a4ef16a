use Rattle.kt_graph.proofs.Common.{refl, listed_names, known_names, stem_of, fit_of, needed_names, candidate_of, matching_from, candidates_for, with_rule, fitting, asking, HasTree, joined_needs, suffix_stem, node_of, inputs_of, order_only_of, components_of, canon_of, cut_place, cut_pieces, written_words, without_outer_separators, unquoted, after_dots, without_dots, name_of, without_repeats, is_wildcard, is_member, is_refused_name, is_without_effect, is_special, is_refused_target, start_suffixes, rules_of, recipes_of, explicit_rules, is_phony, first_goal_by, refusal_of, patterns_of, stemmed_names, stemmed_of, head_names, rule_of, is_separator, is_blank, words_of, list_text, is_percent, has_percent, pattern_front, pattern_back, is_between, stem_span, matches_from}
use Rattle.kt_graph.specs.Goals.{named_goals, default_goals}
use Rattle.kt_graph_laws.proofs.laws.rows_of_choices.Goals as goal

pub returns : goal.returns
unfolding listed_names known_names stem_of fit_of needed_names candidate_of matching_from candidates_for with_rule fitting asking HasTree joined_needs suffix_stem node_of inputs_of order_only_of named_goals default_goals components_of canon_of cut_place cut_pieces written_words without_outer_separators unquoted after_dots without_dots name_of without_repeats is_wildcard is_member is_refused_name is_without_effect is_special is_refused_target start_suffixes rules_of recipes_of explicit_rules is_phony first_goal_by refusal_of patterns_of stemmed_names stemmed_of head_names rule_of is_separator is_blank words_of list_text is_percent has_percent pattern_front pattern_back is_between stem_span matches_from
returns c = record { direct = refl; chain = refl; nothing_known = refl; circular = refl; empty_stem = refl; directory = refl; shortest = refl; any_name_dropped = refl; terminal = refl }
