use Rattle.kt_rules.proofs.Common.{refl, matches_from, is_separator, words_of, is_percent, has_percent, pattern_front, pattern_back, is_between, stem_span, is_wildcard, cut_place, cut_pieces, written_words, without_outer_separators, unquoted, after_dots, without_dots, name_of, without_repeats, is_member, is_refused_name, is_without_effect, is_special, is_refused_target, colon_cut, group_targets, after_double, head_of, is_bar, needs_of, tested_needs, name_refusal, mixes_patterns, is_bad_group, target_refusal, first_refusal, line_refusal, stemmed_names, stemmed_of, head_names}
use Rattle.kt_rules_laws.proofs.laws.rows_of_names.Goals as goal

pub returns : goal.returns
unfolding matches_from is_separator words_of is_percent has_percent pattern_front pattern_back is_between stem_span is_wildcard cut_place cut_pieces written_words without_outer_separators unquoted after_dots without_dots name_of without_repeats is_member is_refused_name is_without_effect is_special is_refused_target colon_cut group_targets after_double head_of is_bar needs_of tested_needs name_refusal mixes_patterns is_bad_group target_refusal first_refusal line_refusal stemmed_names stemmed_of head_names
returns c = record { dots = refl; only_dots = refl; stem = refl }
