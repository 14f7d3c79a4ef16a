-- The names that most proofs cite, passed on from one place. Declares nothing.
pub use Rattle.bstr.proofs.lemmas.LineLemmas.{line_len-at, line_len-bounds, line_len-none, lines-nil, lines-step}
pub use Rattle.bstr.specs.Text.{no_cr}
unfoldable pub use Rattle.bstr.specs.Text.{line_len}
pub use Rattle.kt_text.specs.Functions.{dir_part, matches_some, name_part, name_place, occurs, suffix_place, word_at}
pub use Rattle.kt_text.specs.inner.Patterns.{matches_held}
unfoldable pub use Rattle.kt_text.specs.Functions.{basename_of, dir_of, findstring_of, join_of, joined_pairs, matches_word, number_of, patsubst_of, patsubst_word, sort_of, subst_of, word_of, word_set, wordlist_of, words_count_of}
pub use Rattle.kt_text.specs.views.Lines.{AreInOrder}
pub use Rattle.kt_text.specs.Lines.{before_backslash, is_continued_text, space_before, trimmed_line}
unfoldable pub use Rattle.kt_text.specs.Lines.{condensed_group, condensed_line, condensed_of, condensed_rest, groups, is_continued, is_ended, kept_length, kept_of_last, lines_from, logical_lines_of, newline_pieces, nul_line}
pub use Rattle.kt_text.specs.views.Words.{put_word}
unfoldable pub use Rattle.kt_text.specs.Words.{is_blank, is_separator, list_text, words_of}
pub use Rattle.memchr.specs.Find.{FindsNeedle, IsFirstByte, IsLastByte, is_byte, matches}
unfoldable pub use Rattle.memchr.specs.Find.{first_of}
pub use Rattle.std.proofs.Common.{List, arith, leb, length, refl, subst, sym, true≢false, w8}
pub use Rattle.std.proofs.Math.Seq.{get_or-append_seam, take-append-add}
pub use Rattle.std.proofs.lemmas.Bool.{cases_Bool, cases_lt, eq-eqb, eqb-true, false_from_ne_true, false≢true, le-ltb, leb-false, lt-ltb, ltb-false, ltb-true, ne_eqb, not-true, or_parts}
pub use Rattle.std.proofs.lemmas.Bool.Decides.{Decides-eqb, nat_tests}
pub use Rattle.std.proofs.lemmas.List.{drop-drop, drop_all, drop_at, drop_more, get_or-append-add, get_or-drop, get_or-take, get_or_append_left, get_or_at, get_or_past, length-drop, length-reverse, length-take, length-take-le, nil_from_length, reverse-append, take-append-drop, take-append-le, take_all, take_at, take_rest}
pub use Rattle.std.proofs.lemmas.List.Folds.{list_any-append, prefix_len-append}
pub use Rattle.std.proofs.lemmas.List.Sums.{fails_before_first, passes_at_first, position_or_len_is, prefix_len-le-length, suffix_len-le-length, suffix_len_is}
pub use Rattle.std.proofs.lemmas.Simd.{bitmask_splat, trailing_mask_l}
pub use Rattle.std.proofs.lemmas.Slice.Eq.{bytes_eq-Decides, ends_is, starts_is}
pub use Rattle.std.specs.Borrow.{Bor}
pub use Rattle.std.specs.List.{concat, dedup, join_with_byte, onto_first, position_or_len, prefix_len, slice_split}
pub use Rattle.std.specs.Ordering.{MatchOrdering, is_eq, match_ordering, ordering_reverse, ordering_then}
pub use Rattle.std.specs.declared.cmp.Ordering.{Ordering}
pub use Rattle.std.specs.declared.cmp.Ordering.TheVariants.{Equal, Greater, Less}
pub use Rattle.std.specs.List.{All, Contains, flat_map}
pub use Rattle.kt_text.specs.Prelude.{Line, Text, before_first, ends_with, is_nonempty, lines_of, list_any, nat_cmp, slice_get, slice_range, starts_with, suffix_len, trimmed_end, trimmed_start, without_terminator}
