-- What is opened where worked readings of makefiles are found by computing.
use Rattle.kt_eval.proofs.Common.{computing, digits, is_separator, is_blank, words_of, list_text, is_continued, groups, kept_of_last, kept_length, lines_from, logical_lines_of, nul_line, newline_pieces, is_ended, condensed_line, condensed_rest, condensed_group, condensed_of, is_percent, has_percent, pattern_front, pattern_back, is_between, stem_span, subst_of, findstring_of, strip_of, patsubst_word, patsubst_of, matches_word, filter_of, filter_out_of, word_set, sort_of, number_of, word_of, wordlist_of, words_count_of, firstword_of, lastword_of, dir_of, notdir_of, suffix_of, basename_of, addsuffix_of, addprefix_of, joined_pairs, join_of, byte_count, closing, after_dollar, first_term, terms_after, terms_of, before_comment, operator_of, name_end, assignment_parts, block_word, include_word, is_refused_word, directive_of, worded, kind_within, form_of, uncommented, uncommented_of, joint_of, spliced_line, recipe_lines, recipe_of, head_end, colon_place, is_modifier, after_modifier, after_modifiers, is_target_specific, rule_texts, first_word, starts_condition, role_by_word, role_of, levels_from, left_at, find, put, assigning, with_dollars_doubled, seen, innermost_value, lookup, other_function, function_of, is_refused_function, arguments_from, arguments_of, asked_of, request_by_mark, naming_of, text_function, value_of, each_argument, apply_text, apply_if, apply_or, apply_and, each_word, apply_foreach, called, call_by_name, apply_call, apply_value, apply_eval, apply_error, apply_warning, apply_info, apply, body_of, value_named, referred, term_of, each_term, expanded, line_at, at_number, read_include, read_kind, read_bare_tab, read_tab, read_line, read_define, read_stray, late_else, branch_holds, read_end, read_sheet, read_text, read_held, read_file, read_bytes, included, read_first, read_items, read_branches, above, none_left, evaluator}
use Rattle.kt_syntax.specs.Mask.{more_masked, mask_from, mask_of}
use Rattle.kt_syntax.specs.Parts.{block_part, after, parts_from, open_at_end}
use Rattle.kt_syntax.specs.Steps.{step_of, places_after, ahead_of, steps_from}
use Rattle.kt_eval.specs.expanding.TextFunctions.{text_result}
use Rattle.kt_eval.specs.reading.Conditions.{bare_place, in_parentheses, quoted_front, in_quotes, compared_of}
use Rattle.kt_eval.specs.macros.Assignments.{assign, assign_named, assign_line, body_text, define}
use Rattle.kt_eval.specs.reading.Conditionals.{is_set, is_defined, are_equal, holds, text_holds, else_holds, line_holds}
use Rattle.kt_eval.specs.files.Including.{is_shell_pattern, include_named, each_include, include_line}
use Rattle.kt_eval.specs.reading.Rules.{enter_rule, close_rule, open_rule, rule_of_parts, rule_line}
use Rattle.kt_eval.specs.reading.Machine.{with_default}

unfoldable pub reading : Unit {0}
unfolding computing digits is_separator is_blank words_of list_text is_continued groups kept_of_last kept_length lines_from logical_lines_of nul_line newline_pieces is_ended condensed_line condensed_rest condensed_group condensed_of is_percent has_percent pattern_front pattern_back is_between stem_span subst_of findstring_of strip_of patsubst_word patsubst_of matches_word filter_of filter_out_of word_set sort_of number_of word_of wordlist_of words_count_of firstword_of lastword_of dir_of notdir_of suffix_of basename_of addsuffix_of addprefix_of joined_pairs join_of byte_count closing after_dollar first_term terms_after terms_of more_masked mask_from mask_of before_comment operator_of name_end assignment_parts block_word include_word is_refused_word directive_of worded kind_within form_of uncommented uncommented_of joint_of spliced_line recipe_lines recipe_of head_end colon_place is_modifier after_modifier after_modifiers is_target_specific rule_texts first_word starts_condition role_by_word role_of block_part after parts_from open_at_end step_of places_after ahead_of steps_from levels_from left_at find put assigning with_dollars_doubled seen innermost_value lookup text_function other_function function_of is_refused_function text_result arguments_from arguments_of asked_of request_by_mark naming_of bare_place in_parentheses quoted_front in_quotes compared_of value_of each_argument apply_text apply_if apply_or apply_and each_word apply_foreach called call_by_name apply_call apply_value apply_eval apply_error apply_warning apply_info apply body_of value_named referred term_of each_term expanded assign assign_named assign_line body_text define is_set is_defined are_equal holds text_holds else_holds line_holds is_shell_pattern include_named each_include include_line enter_rule close_rule open_rule rule_of_parts rule_line line_at at_number read_include read_kind read_bare_tab read_tab read_line read_define read_stray late_else branch_holds read_end read_sheet read_text read_held read_file read_bytes included read_first read_items read_branches above none_left evaluator with_default
reading = tt
