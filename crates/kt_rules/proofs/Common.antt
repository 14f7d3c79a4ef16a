-- The names that most proofs cite, passed on from one place. Declares nothing.
pub use Rattle.kt_list.proofs.NameLemmas.{number_found}
pub use Rattle.kt_list.proofs.NumberLemmas.{name_read, named_at, names_read, number_stays, numbers_below, numbers_push, numbers_stay}
pub use Rattle.kt_list.proofs.general.Booleans.{and_first, and_nothing, and_second, or_nothing, or_swap}
pub use Rattle.kt_list.proofs.general.Numbers.{less_one}
pub use Rattle.kt_list.proofs.general.Places.{head_is, is_some-map}
pub use Rattle.kt_rules.specs.views.Book.{AreApart, GroupsStandAlone, makes, numbers_in, rule_needs}
pub use Rattle.kt_rules.specs.Book.{begins_with_dot, beside_group_in, both_colons_in, differ_in_colons, has_recipe, is_beside_group, is_double, is_explicit, is_goal, is_group, is_made, is_pattern, made_targets, names_eq, override_message, pattern_rule, patterns_in, phony_of, repeats, suffix_rule_as_pattern, target_names, target_rules, targets_with_recipe, two_recipes_in, unrepeated, xor}
pub use Rattle.kt_rules.specs.inner.Goals.{goal_in}
unfoldable pub use Rattle.kt_rules.specs.views.Book.{explicit_numbers}
unfoldable pub use Rattle.kt_rules.specs.Book.{explicit_rules, first_goal_by, is_phony, patterns_of, recipes_of, refusal_of, rules_of}
pub use Rattle.kt_rules.specs.Entry.{rule_with, rules_with, shared_needs}
unfoldable pub use Rattle.kt_rules.specs.Entry.{head_names, rule_of, stemmed_names, stemmed_of}
pub use Rattle.kt_rules.specs.Names.{begins_quotable, cuts, end_place, is_quotable}
unfoldable pub use Rattle.kt_rules.specs.Names.{after_dots, cut_pieces, cut_place, is_member, is_refused_name, is_refused_target, is_special, is_wildcard, is_without_effect, name_of, unquoted, without_dots, without_outer_separators, without_repeats, written_words}
pub use Rattle.kt_rules.specs.Refusals.{RuleLineFault, Refusal, bad_group, both_colons, rule_line_fault, rule_line_faults, two_recipes}
pub use Rattle.kt_rules.specs.views.Refusals.{GivesExpected}
pub use Rattle.kt_rules.specs.inner.Refusals.{ReportsFault}
pub use Rattle.kt_rules.specs.RuleLine.{line_of}
unfoldable pub use Rattle.kt_rules.specs.RuleLine.{after_double, colon_cut, first_refusal, group_targets, head_of, is_bad_group, is_bar, line_refusal, mixes_patterns, name_refusal, needs_of, target_refusal, tested_needs}
pub use Rattle.kt_rules.specs.inner.Slots.{AllAgree, AreBefore, AreIn, ForgotFrom, GotRecipes, GotSpots, GrewAt, GrewIn, IsIndexOf, IsKept, first_found, first_of, list_of, spot_at, spot_rule, spots_at, spots_before, spots_for, target_rule, target_spots, unless}
pub use Rattle.kt_rules.specs.views.Targets.{rule_view, entry_view, line_needs, name_put, names_put, names_view, needed_view, needs_view, target_view, targets_view}
unfoldable pub use Rattle.kt_rules.specs.inner.Slots.{explicit_left, found, spots_from}
pub use Rattle.kt_rules.specs.Suffixes.{all_needs, has_no_names, is_bare, is_cut_at, is_suffix_rule, percent, suffix_cut, suffix_patterns, suffixes_after, suffixes_of}
unfoldable pub use Rattle.kt_rules.specs.Suffixes.{start_suffixes}
pub use Rattle.kt_rules.specs.declared.book.book_names.Marks.{Marks}
pub use Rattle.kt_rules.specs.declared.book.kinds.Kinds.{Kinds}
pub use Rattle.kt_rules.specs.declared.line.cutting.Cut.TheVariants.{Colon, Separator}
pub use Rattle.kt_rules.specs.declared.line.entry.RecipeLine.{RecipeLine}
pub use Rattle.kt_rules.specs.declared.fault.RuleFault.{RuleFault}
pub use Rattle.kt_rules.specs.declared.fault.RuleFault.TheVariants.{Memory, Refused}
pub use Rattle.kt_rules.specs.inner.Dictionary.{GrowsDictionary, IsListOf, IsNumberOf}
pub use Rattle.kt_rules.specs.inner.Held.{AreHeld, AreNeeds, AreRuleNumbers, HoldsAll, IsKnownRow, IsLast, needs_held, numbered_target, rule_held, rules_held, sees}
pub use Rattle.kt_rules.specs.inner.SuffixCuts.{HaveLengths, KeepLengths, earlier, is_bare_at, is_cut_inside, is_number_among, with_number}
unfoldable pub use Rattle.kt_rules.specs.inner.SuffixCuts.{cut_after, end_of_length, first_cut, first_end, lengths_with}
pub use Rattle.kt_list.proofs.general.Results.{on_err}
pub use Rattle.kt_list.specs.views.Names.{AreNumbersOf, name_at, names_at}
pub use Rattle.kt_text.proofs.lemmas.MatchLemmas.{list_any-place}
pub use Rattle.kt_text.proofs.lemmas.PlaceLemmas.{differ_turned, drop-prefix_len, first_byte_place, occurs_found}
pub use Rattle.kt_text.specs.Functions.{quotes_percent, with_stem}
unfoldable pub use Rattle.kt_text.specs.Match.{has_percent, is_between, is_percent, pattern_back, pattern_front, stem_span}
pub use Rattle.kt_text.specs.Words.{stripped_start}
unfoldable pub use Rattle.kt_text.specs.Words.{is_separator, words_of}
pub use Rattle.memchr.specs.Find.{IsFirstByte, OccursAt, is_byte, is_byte3}
unfoldable pub use Rattle.memchr.specs.Find.{matches_from}
pub use Rattle.std.proofs.Common.{IfSome, OnErr, Option, Some, arith, get_or, refl, rules, subst, sym}
pub use Rattle.std.proofs.Math.Seq.{drop-append_seam, get_or-append_seam, set-append_seam, take-append_seam}
pub use Rattle.std.proofs.lemmas.Bool.{and_from, and_parts, cases_Bool, eq-eqb, eqb-true, false_from_ne_true, false≢true, le-ltb, lt-ltb, ltb-false, ltb-true, ne_eqb, not-true, or_left, or_parts, or_right}
pub use Rattle.std.proofs.lemmas.Grind.{flat_map-append, fold-append}
pub use Rattle.std.proofs.lemmas.Iterator.Adapters.{position_from-zero}
pub use Rattle.std.proofs.lemmas.List.{append-nil, append_assoc, drop-map, drop_all, drop_more, get_or-append_right, get_or-set_other, get_or-set_same, get_or_append_left, get_or_past, length-drop, length-map, length-set, length-take, length-take-le, length_push, map-append, reverse-append, take-map, take_all, take_more, take_rest}
pub use Rattle.std.proofs.lemmas.List.Elements.{All-append, All-cons, All-drop, All-filter, All-get_or, All-head, All-map, All-nil, All-push, All-set, All-tail, All-take, All-weaker, Contains-get_or, filter-append, filter_map-append}
pub use Rattle.std.proofs.lemmas.List.Folds.{list_any-append, list_any_at, list_any_none}
pub use Rattle.std.proofs.lemmas.Option.{IfSome_then, get_or_from_slice_get, same_Some, slice_get-get_or, slice_get_past, slice_get_within, unwrap_or-slice_get}
pub use Rattle.std.proofs.lemmas.Result.{on_err_weaker, on_ok_weaker}
pub use Rattle.std.proofs.lemmas.Slice.Eq.{bytes_eq-Decides, starts_is}
pub use Rattle.std.specs.Borrow.{Bor}
pub use Rattle.std.specs.Cmp.Lexicographic.{as_long, nat_list_eq_equiv, pointwise, unequal}
pub use Rattle.std.specs.List.{AllByRecursion, Contains, IsDistinct, after_first, before_first, cons_option, filter_map, onto_first, position_or_len, prefix_len, slice_split, starts_with, suffix_len}
pub use Rattle.std.specs.Option.{option_and_then, option_to_list}
pub use Rattle.std.specs.Vec.{with_item}
pub use Rattle.kt_rules.specs.inner.Prelude.{All, AreBelow, Head, HeadNames, Spot, ends_with, is_colon, is_nil, option_list, place_of, position_from, tested_line}
pub use Rattle.kt_rules.specs.Prelude.{Entry, Kind, Needs, Target, Text, is_among, list_any, option_map_or, option_or, range_with_len, with_name}
pub use Rattle.kt_rules.specs.views.Prelude.{List, [], bytes_eq, enumerate_from, option_map, rule_by, target_of, unwrap_or}
pub use Rattle.kt_rules.specs.Entry.{empty_line}
pub use Rattle.std.specs.Prelude.{flat_map}
pub use Rattle.kt_text.specs.Words.{is_nonempty}
pub use Rattle.std.specs.List.{list_all}
