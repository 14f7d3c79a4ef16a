-- The names that most proofs cite, passed on from one place. Declares nothing.
pub use Rattle.bstr.specs.Text.{no_cr, without_terminator}
pub use Rattle.kt_list.proofs.general.Booleans.{and_first, and_second, or_first, or_second}
pub use Rattle.kt_list.proofs.general.Numbers.{above_zero, less_one, sum_suc}
pub use Rattle.kt_list.proofs.general.Places.{take_nil}
pub use Rattle.kt_syntax.specs.Comments.{backslashes}
pub use Rattle.kt_syntax.specs.views.Lines.{begins_comment, line_form_view}
unfoldable pub use Rattle.kt_syntax.specs.Comments.{uncommented, uncommented_of}
pub use Rattle.kt_syntax.specs.Heads.{after_colon, assigns_after, found_or, modifier_at, parts_with}
unfoldable pub use Rattle.kt_syntax.specs.Heads.{after_modifier, after_modifiers, colon_place, first_recipe, head_end, head_text, is_modifier, is_target_specific, rule_texts}
pub use Rattle.kt_syntax.specs.Kinds.{Parts, assignment, blank, directive, ends_name, kind_by_parts, kind_by_word, parts_after, parts_at, past_blanks, rule}
unfoldable pub use Rattle.kt_syntax.specs.Kinds.{assignment_parts, before_comment, block_word, directive_of, form_of, include_word, is_refused_word, kind_within, name_end, operator_of, worded}
pub use Rattle.kt_syntax.specs.Mask.{goes_odd, mask_byte}
unfoldable pub use Rattle.kt_syntax.specs.Mask.{mask_from, mask_of, more_masked}
pub use Rattle.kt_syntax.specs.Terms.{Continuations, dropped, literal_run, reference_of, single}
pub use Rattle.kt_syntax.specs.views.Terms.{EndsRun, IsBalanced, IsSingle, IsSplittingIn, IsUnclosed, is_reference_mark, token_of, IsTerm}
pub use Rattle.kt_syntax.specs.inner.Terms.{OneSplitting}
unfoldable pub use Rattle.kt_syntax.specs.Terms.{after_dollar, closing, first_term, terms_after, terms_of}
unfoldable pub use Rattle.kt_syntax.specs.views.Terms.{byte_count}
pub use Rattle.kt_syntax.specs.declared.form.Operator.{Operator}
pub use Rattle.kt_syntax.specs.declared.part.OpenConditional.{OpenConditional}
pub use Rattle.kt_syntax.specs.declared.part.OpenDefine.{OpenDefine}
pub use Rattle.kt_syntax.specs.declared.recipe.Joint.{Joint}
pub use Rattle.kt_syntax.specs.declared.term.Mark.TheVariants.{Braces, Byte, Parentheses}
pub use Rattle.kt_text.proofs.lemmas.CondensedLemmas.{condensed_alone, one_piece, without_newline}
pub use Rattle.kt_text.proofs.lemmas.PlaceLemmas.{differ_turned, drop-prefix_len, first_byte_place}
pub use Rattle.kt_text.specs.Lines.{before_backslash, newline_after}
unfoldable pub use Rattle.kt_text.specs.Lines.{condensed_group, condensed_line, condensed_of, condensed_rest, groups, is_continued, is_ended, newline_pieces}
unfoldable pub use Rattle.kt_text.specs.Words.{is_blank}
pub use Rattle.memchr.specs.Find.{IsFirstByte, is_byte, is_byte3}
pub use Rattle.std.proofs.Common.{append-nil, length-append, length-drop, length-take-le, refl, take, take-append-drop}
pub use Rattle.std.proofs.Math.Seq.{drop-append-add, drop-append_seam, drop-cons, get_or-append_seam, take-append-add, take-append_seam, take-length}
pub use Rattle.std.proofs.lemmas.Bool.{and_from, and_parts, and_right, cases_Bool, cases_lt, cases_order, eq-eqb, eqb-true, false_from_ne_true, false≢true, le-ltb, lt-ltb, ltb-true, ne_eqb, not-false, not-true, not_from_false, or_cases, or_left, or_parts, or_right}
pub use Rattle.std.proofs.lemmas.Bool.Decides.{Decides-eqb, nat_tests}
pub use Rattle.std.proofs.lemmas.List.{drop-drop, drop_all, drop_at, drop_more, ext_get_or, get_or-drop, get_or-replicate, get_or_append_left, length-map, length-replicate, length-reverse, nil_from_length, replicate-append-replicate, reverse-append, set-get_or, take-append-le, take-take, take_all, take_at, take_min, take_rest}
pub use Rattle.std.proofs.lemmas.List.Elements.{All-cons, All-head, All-nil, All-tail, filter-append}
pub use Rattle.std.proofs.lemmas.List.Sums.{length-filter, prefix_len-le-length, prefix_len_passes, prefix_len_stops, suffix_len-take_no, suffix_len-take_yes, sum_by-append, sum_by-cons}
pub use Rattle.std.proofs.lemmas.Option.{get_or_from_slice_get, none-some, same_Some, unwrap_or-slice_get}
pub use Rattle.std.proofs.lemmas.Slice.Eq.{bytes_eq-Decides, starts_is}
pub use Rattle.std.specs.List.{concat, onto_first, prefix_len, suffix_len}
pub use Rattle.std.specs.Str.{bytes_eq}
pub use Rattle.kt_syntax.specs.Prelude.{BlockPart, BlockStep, Edge, Inside, Missing, Newline, NumberedRole, Outside, Role, Text, inside, line_form, past_word, position_or_len, slice_range, starts_with, trimmed_end, trimmed_start}
pub use Rattle.kt_syntax.specs.Terms.{Term, dollar, kept, literal, reference, unclosed, unit_length}
pub use Rattle.kt_syntax.specs.Kinds.{comment_place}
pub use Rattle.std.specs.List.{flat_map, list_any}
pub use Rattle.kt_text.specs.Lines.{is_continued_text}
pub use Rattle.kt_syntax.specs.inner.Prelude.{list_all, slice_get}
