-- The names that most proofs cite, passed on from one place. Declares nothing.
pub use Rattle.kt_eval.proofs.lemmas.GrowingLemmas.{front_next, front_same}
pub use Rattle.kt_eval.proofs.lemmas.GrowingReads.{expanding_grows, expanding_stays}
pub use Rattle.kt_eval.specs.views.Outcome.{Fails, IfCutBy}
pub use Rattle.kt_eval.specs.Outcome.{StepOver, done, leaving, left_of, then_do}
pub use Rattle.kt_eval.specs.State.{World, fixed_or, found_of, frozen_world}
unfoldable pub use Rattle.kt_eval.specs.State.{innermost_value, lookup, seen}
pub use Rattle.kt_eval.specs.declared.macros.Flavour.TheVariants.{Deferred, Immediate}
pub use Rattle.kt_eval.specs.declared.macros.Macro.{Macro}
pub use Rattle.kt_eval.specs.declared.stop.Stop.{Stop}
unfoldable pub use Rattle.kt_eval.specs.expanding.Calls.{arguments_from, arguments_of, asked_of, function_of, is_refused_function, naming_of, other_function, request_by_mark}
unfoldable pub use Rattle.kt_eval.specs.views.expanding.Calls.{names_plainly}
pub use Rattle.kt_eval.specs.expanding.Expansion.{Evaluator, flavoured}
unfoldable pub use Rattle.kt_eval.specs.expanding.Expansion.{apply, apply_error, apply_eval, apply_foreach, apply_info, body_of, each_argument, each_term, each_word, expanded, referred, term_of, value_named, value_of}
unfoldable pub use Rattle.kt_eval.specs.expanding.Levels.{above, evaluator, none_left}
pub use Rattle.kt_eval.specs.views.expanding.Pure.{Says}
unfoldable pub use Rattle.kt_eval.specs.macros.Macros.{find}
pub use Rattle.kt_list.specs.Prefixes.{IsPrefix}
pub use Rattle.kt_recipe.specs.views.Automatic.{PartMacros}
pub use Rattle.kt_recipe.specs.Automatic.{endings, of_mark}
unfoldable pub use Rattle.kt_recipe.specs.Automatic.{automatic_in, subject_names}
pub use Rattle.kt_recipe.specs.Forms.{directory_of}
unfoldable pub use Rattle.kt_recipe.specs.Forms.{names_text_in}
pub use Rattle.kt_recipe.specs.Lines.{after_run}
unfoldable pub use Rattle.kt_recipe.specs.Lines.{ignores_failure, is_prefix, pieces_of_line}
pub use Rattle.kt_recipe.specs.views.Commands.{Commands, command_in}
pub use Rattle.kt_recipe.specs.Shell.{Setting, joined, setting_of, shell_text}
unfoldable pub use Rattle.kt_recipe.specs.Shell.{expansion, put_line, put_lines, put_part, put_parts, put_piece, put_pieces, shell_of, wrapped}
pub use Rattle.kt_recipe.specs.inner.Shell.{setting_at, with_joint}
pub use Rattle.kt_rules.specs.Names.{is_among, with_name}
unfoldable pub use Rattle.kt_rules.specs.Names.{without_repeats}
pub use Rattle.kt_syntax.specs.Terms.{Continuations, Term, dollar, dropped, literal, literal_run, reference, single}
pub use Rattle.kt_syntax.specs.views.Terms.{token_of}
unfoldable pub use Rattle.kt_syntax.specs.Terms.{after_dollar, closing, first_term, terms_after, terms_of}
pub use Rattle.kt_syntax.specs.declared.term.Mark.TheVariants.{Braces, Byte, Parentheses}
pub use Rattle.kt_text.proofs.lemmas.ListLemmas.{put_words}
unfoldable pub use Rattle.kt_text.specs.TextFunctions.{text_function}
unfoldable pub use Rattle.kt_text.specs.Words.{is_blank, is_separator, list_text, words_of}
pub use Rattle.std.proofs.Common.{None, [], ap, append_assoc, length, refl, rules, subst, sym, tests, unwrap_or}
pub use Rattle.std.proofs.lemmas.Bool.{cases_Bool, eqb-true, not-true, or_parts}
pub use Rattle.std.proofs.lemmas.List.{append-nil, drop_more, map-append}
pub use Rattle.std.proofs.lemmas.Result.{IfOk-weaker, err_from_is_err_and}
pub use Rattle.std.specs.Cmp.Lexicographic.{pointwise}
pub use Rattle.std.specs.Cow.{cow_slice_items}
pub use Rattle.std.specs.List.{All}
pub use Rattle.kt_recipe.specs.inner.Prelude.{Gave, NamePart, Subject, has_parts, marks, subject_names_in}
pub use Rattle.kt_recipe.specs.Prelude.{Macros, Node, Place, RecipeLine, Store, Text, list_any, part_lines, range_with_len, slice_split}
pub use Rattle.kt_eval.specs.Outcome.{StepEnd, Stopped}
pub use Rattle.kt_text.specs.Words.{is_nonempty}
pub use Rattle.kt_eval.specs.files.Files.{look}
