-- What is opened where worked values are found by computing.
use Rattle.kt_eval.proofs.Common.{assigning, asked_of, expanded, evaluator, computing, digits, is_separator, is_blank, words_of, list_text, is_percent, has_percent, pattern_front, pattern_back, is_between, stem_span, subst_of, patsubst_word, patsubst_of, number_of, word_of, joined_pairs, join_of, closing, after_dollar, first_term, terms_after, terms_of, find, put, with_dollars_doubled, seen, innermost_value, lookup, other_function, function_of, is_refused_function, arguments_from, arguments_of, request_by_mark, naming_of, text_function, value_of, each_argument, apply_text, apply_if, apply_or, apply_and, each_word, apply_foreach, called, call_by_name, apply_call, apply_value, apply_eval, apply_error, apply_warning, apply_info, apply, body_of, value_named, referred, term_of, each_term, above, none_left}
use Rattle.kt_eval.specs.reading.Conditions.{compared_of, bare_place, in_parentheses, quoted_front, in_quotes}
use Rattle.kt_eval.specs.expanding.TextFunctions.{text_result}

unfoldable pub expanding : Unit {0}
unfolding computing digits is_separator is_blank words_of list_text is_percent has_percent pattern_front pattern_back is_between stem_span subst_of patsubst_word patsubst_of number_of word_of joined_pairs join_of closing after_dollar first_term terms_after terms_of find put assigning with_dollars_doubled seen innermost_value lookup text_function other_function function_of is_refused_function text_result arguments_from arguments_of asked_of request_by_mark naming_of bare_place in_parentheses quoted_front in_quotes compared_of value_of each_argument apply_text apply_if apply_or apply_and each_word apply_foreach called call_by_name apply_call apply_value apply_eval apply_error apply_warning apply_info apply body_of value_named referred term_of each_term expanded above none_left evaluator
expanding = tt
