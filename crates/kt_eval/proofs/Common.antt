-- The names that most proofs cite, passed on from one place. Declares nothing.
unfoldable pub use Rattle.bstr.proofs.Computing.{computing}
pub use Rattle.kt_eval.specs.views.Outcome.{Fails, IfCutBy, BlamesBy}
pub use Rattle.kt_eval.specs.Outcome.{done, then_do}
pub use Rattle.kt_eval.specs.State.{newer}
unfoldable pub use Rattle.kt_eval.specs.State.{innermost_value, lookup, seen}
pub use Rattle.kt_eval.specs.inner.Evaluation.{Trail, asked_for, one_of, told, trail}
unfoldable pub use Rattle.kt_eval.specs.inner.Evaluation.{astray}
pub use Rattle.kt_eval.specs.declared.reading.page.Source.{Source}
pub use Rattle.kt_eval.specs.declared.reading.page.Source.TheVariants.{File, Held}
pub use Rattle.kt_eval.specs.declared.state.Frame.{Frame}
pub use Rattle.kt_eval.specs.declared.state.Frame.TheVariants.{Call, Loop}
pub use Rattle.kt_eval.specs.declared.state.TermRest.TheVariants.{Nothing, Value, Whole}
pub use Rattle.kt_eval.specs.expanding.Calls.{Naming, Request, calls, closer, cuts_arguments, is_function_name, may_cut, nested, one_less, opener, plainly, refers, refuses, substituting}
unfoldable pub use Rattle.kt_eval.specs.expanding.Calls.{arguments_from, arguments_of, asked_of, function_of, is_refused_function, naming_of, other_function, request_by_mark}
pub use Rattle.kt_eval.specs.expanding.Expansion.{Evaluator, accepted, apply_other, flavoured, too_deep}
unfoldable pub use Rattle.kt_eval.specs.expanding.Expansion.{apply, apply_and, apply_call, apply_error, apply_eval, apply_foreach, apply_if, apply_info, apply_or, apply_text, apply_value, apply_warning, body_of, call_by_name, called, each_argument, each_term, each_word, expanded, referred, term_of, value_named, value_of}
unfoldable pub use Rattle.kt_eval.specs.expanding.Levels.{above, evaluator, none_left}
pub use Rattle.kt_eval.specs.inner.Answers.{absent}
pub use Rattle.kt_eval.specs.files.Files.{same_found}
unfoldable pub use Rattle.kt_eval.specs.files.Files.{differing}
unfoldable pub use Rattle.kt_eval.specs.macros.Macros.{assigning, find, put, with_dollars_doubled}
pub use Rattle.kt_eval.specs.reading.Reading.{Page, RawLine, at_line, body_at, largest_file, raw_line, read_included, read_or, read_tab_in, read_without_nul, sheet_of}
unfoldable pub use Rattle.kt_eval.specs.reading.Reading.{at_number, branch_holds, included, late_else, line_at, read_bare_tab, read_branches, read_bytes, read_define, read_end, read_file, read_first, read_held, read_include, read_items, read_kind, read_line, read_sheet, read_stray, read_tab, read_text}
unfoldable pub use Rattle.kt_list.specs.Prefixes.{last}
pub use Rattle.kt_syntax.proofs.lemmas.Closing.{Closes, after-close, after-open, after-other, closes-close, closes-open, closes-other, count_nil, count_no, count_yes}
pub use Rattle.kt_syntax.specs.Blocks.{Branches, Items, branch, conditional, definition, fault, late, line, no_branch, none, tree_of}
unfoldable pub use Rattle.kt_syntax.specs.Blocks.{levels_from}
unfoldable pub use Rattle.kt_syntax.specs.Comments.{uncommented, uncommented_of}
pub use Rattle.kt_syntax.specs.Heads.{RuleParts, line_parts}
unfoldable pub use Rattle.kt_syntax.specs.Heads.{after_modifier, after_modifiers, colon_place, head_end, is_modifier, is_target_specific, rule_texts}
pub use Rattle.kt_syntax.specs.Kinds.{blank, line_form, refused, rule}
unfoldable pub use Rattle.kt_syntax.specs.Kinds.{assignment_parts, before_comment, block_word, directive_of, form_of, include_word, is_refused_word, kind_within, name_end, operator_of, worded}
pub use Rattle.kt_syntax.specs.views.Reading.{IsAhead, IsConditional, ReadsOn, after_branches, append}
unfoldable pub use Rattle.kt_syntax.specs.views.Reading.{AreTried, left_at}
unfoldable pub use Rattle.kt_syntax.specs.Recipes.{joint_of, recipe_lines, recipe_of, spliced_line}
pub use Rattle.kt_syntax.specs.Roles.{line_text}
unfoldable pub use Rattle.kt_syntax.specs.Roles.{first_word, role_by_word, role_of, starts_condition}
pub use Rattle.kt_syntax.specs.Terms.{dropped}
pub use Rattle.kt_syntax.specs.views.Terms.{token_of, IsBalanced}
unfoldable pub use Rattle.kt_syntax.specs.Terms.{after_dollar, closing, first_term, terms_after, terms_of}
unfoldable pub use Rattle.kt_syntax.specs.views.Terms.{byte_count}
pub use Rattle.kt_syntax.specs.declared.form.Directive.{Directive}
pub use Rattle.kt_syntax.specs.declared.form.Operator.{Operator}
pub use Rattle.kt_syntax.specs.declared.part.Missing.{Missing}
unfoldable pub use Rattle.kt_text.specs.Functions.{addprefix_of, addsuffix_of, basename_of, dir_of, filter_of, filter_out_of, findstring_of, firstword_of, join_of, joined_pairs, lastword_of, matches_word, notdir_of, number_of, patsubst_of, patsubst_word, sort_of, strip_of, subst_of, suffix_of, word_of, word_set, wordlist_of, words_count_of}
unfoldable pub use Rattle.kt_text.specs.Lines.{condensed_group, condensed_line, condensed_of, condensed_rest, groups, is_continued, is_ended, kept_length, kept_of_last, lines_from, logical_lines_of, newline_pieces, nul_line}
unfoldable pub use Rattle.kt_text.specs.Match.{has_percent, is_between, is_percent, pattern_back, pattern_front, stem_span}
unfoldable pub use Rattle.kt_text.specs.TextFunctions.{text_function}
pub use Rattle.kt_text.specs.Words.{is_colon}
unfoldable pub use Rattle.kt_text.specs.Words.{is_blank, is_separator, list_text, words_of}
pub use Rattle.std.proofs.Common.{append-nil, arith, map, refl, rules, subst, true≢false}
pub use Rattle.std.proofs.lemmas.Bool.{and_from, and_parts, cases_Bool, eq-eqb, eqb-true, false_from_ne_true, false≢true, le-ltb, lt-ltb, not-true, or_parts}
pub use Rattle.std.proofs.lemmas.List.{drop-append-le, drop-map, drop-take, drop_all, drop_more, length-take-le, take-append-le, take-map, take_all, take_more}
pub use Rattle.std.proofs.lemmas.List.Elements.{All-cons, All-contains, All-nil, Contains-append_cases, Contains-append_left, Contains-append_right, Contains-get_or, Contains-push, Contains-push_cases}
pub use Rattle.std.proofs.lemmas.Result.{err_from_is_err_and}
pub use Rattle.std.proofs.lemmas.Slice.Eq.{bytes_eq-Decides}
unfoldable pub use Rattle.std.specs.Fmt.{digits}
pub use Rattle.std.specs.List.{after_first, before_first, onto_first, position_or_len}
pub use Rattle.std.specs.Str.{IsUtf8, bytes_eq, is_utf8}
pub use Rattle.kt_eval.specs.files.Files.{AgreeWith, Answer}
pub use Rattle.std.specs.List.{All, Contains, list_all}
pub use Rattle.kt_eval.specs.views.files.Files.{AnswersGrow}
pub use Rattle.kt_eval.specs.views.Prelude.{AsksNothing, Gave, Gives, IfCut, IsPrefix, StepEnd, Stop, Stopped, fault_at, left_of}
pub use Rattle.kt_eval.specs.inner.Prelude.{Assigning, GoesOn, Keeps, defers, escapes, expands, keeps}
pub use Rattle.kt_eval.specs.Prelude.{Braces, Byte, Deferred, Entry, Fault, Flavour, Form, FoundValue, Function, Immediate, Macro, Macros, Mark, Parentheses, Step, Store, Term, Text, World, [], arity, assignment, bind, directive, dollar, frozen_world, join_with_byte, leaving, list_any, literal, look, message_place, plain_of, reference, rule_of, say, set_rule, slice_get, slice_range, stop, stripped, text_function_name, unbind, unclosed}
pub use Rattle.kt_eval.specs.State.{found_of}
pub use Rattle.kt_eval.specs.macros.Macros.{set_by_makefile}
unfoldable pub use Rattle.kt_eval.specs.files.Including.{each_include, include_line}
unfoldable pub use Rattle.kt_eval.specs.macros.Assignments.{assign_line, assign_named, body_text}
unfoldable pub use Rattle.kt_eval.specs.reading.Conditionals.{are_equal, else_holds, is_defined}
unfoldable pub use Rattle.kt_eval.specs.reading.Rules.{rule_of_parts}
