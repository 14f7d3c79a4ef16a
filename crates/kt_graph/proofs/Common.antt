-- The names that most proofs cite, passed on from one place. Declares nothing.
pub use Rattle.indexmap.proofs.CallerLemmas.{Contains-insert_key, Contains-list_any}
pub use Rattle.indexmap.specs.IndexSet.{insert_key}
pub use Rattle.kt_graph.specs.Known.{named_by, named_with, unknown_of}
unfoldable pub use Rattle.kt_graph.specs.Known.{known_names, listed_names}
pub use Rattle.kt_graph.specs.Reach.{AreOneMaking, ComesFirst, HasEdge, HasInput, IsCyclic, IsDoubled, IsFirst, IsGraph, IsInGroup, IsMade, IsReached, IsReserved, Leads, Reaches, Trouble, beside, circular, is_unmade, itself, no_rule, one_file, reserved_name, unmade_goal}
pub use Rattle.kt_graph.specs.views.Reach.{HasMadeInputs}
pub use Rattle.kt_graph.specs.declared.faults.edges.Edges.{Edges}
pub use Rattle.kt_graph.specs.declared.nodes.byte_order.Front.{Front}
pub use Rattle.kt_graph.specs.declared.nodes.graph_builder.GraphBuilder.{GraphBuilder}
pub use Rattle.kt_graph.specs.declared.nodes.inferring.InferredParts.{InferredParts}
pub use Rattle.kt_graph.specs.declared.nodes.needing.Sort.TheVariants.{OrderOnly, Prerequisite}
pub use Rattle.kt_graph.specs.declared.nodes.node.Instance.{Instance}
pub use Rattle.kt_graph.specs.declared.nodes.node.NodeKind.TheVariants.{DoubleColon, Phony}
pub use Rattle.kt_graph.specs.declared.nodes.part.NumberedPart.{NumberedPart}
pub use Rattle.kt_graph.specs.declared.nodes.stored.HeldPart.{HeldPart}
pub use Rattle.kt_graph.specs.declared.search.ends.TargetEnds.{TargetEnds}
pub use Rattle.kt_graph.specs.declared.search.tried.TriedQuestions.{TriedQuestions}
pub use Rattle.kt_graph.specs.faults.Paths.{above_name, is_idle, is_reserved, is_rooted, step_up, with_part}
pub use Rattle.kt_graph.specs.inner.faults.Files.{ends_in_name, HasFiles, held_for, several_in}
pub use Rattle.kt_graph.specs.inner.nodes.Graph.{AreDistinct, IsByteOrder}
unfoldable pub use Rattle.kt_graph.specs.faults.Paths.{canon_of, components_of}
pub use Rattle.kt_graph.specs.inner.faults.Arrivals.{AreCounted, IsLeftIn, LeavesCircular, arrivals_at, is_left, next_of_all, next_of_left, with_arrival, without_arrival}
pub use Rattle.kt_graph.specs.inner.faults.Edges.{AreEdgesOf, AreMadeBelow, AreNeededBelow, AreReversed, HasNext, HaveEdges, HoldsCircular, IsDoneWith, IsEdge, IsFirstBack, IsRepeated, LeadToVertices, LeadsBack, LeadsOn, LeadsTo, Searches, Visits, count_held, edge_row, edge_rows, holds_in, listed_number, making_edges, makings_edges, next_of, numbers_after, row_by, vertex_count, work_with}
pub use Rattle.kt_graph.specs.inner.nodes.Stored.{needed_numbers}
pub use Rattle.kt_graph.specs.inner.nodes.Buckets.{bare_rows, edges_from, edges_to, rows_held, with_edge, with_edges}
pub use Rattle.kt_graph.specs.views.faults.Files.{is_repeated}
pub use Rattle.kt_graph.specs.views.nodes.Groups.{made_names}
pub use Rattle.kt_graph.specs.inner.nodes.GraphBuilder.{AllSay, AreOf, AreTold, BuildsNode, HasLastNeeds, IsBegun, IsCut, IsDone, IsLeafOf, IsLikeLast, IsOver, ReachesMore, leaf_stored, sole_node}
pub use Rattle.kt_graph.specs.inner.nodes.Inputs.{HasOwnInputs, inputs_held, numbers_without, others_held, with_input_number}
unfoldable pub use Rattle.kt_graph.specs.inner.nodes.Inputs.{differ, rise, rise_after, rise_but_first}
pub use Rattle.kt_graph.specs.inner.nodes.Needed.{first_needs, joined_after, needed_as, needed_by, needed_by_parts, needing_as, needing_view, part_with, rules_needs, single_node}
pub use Rattle.kt_graph.specs.inner.nodes.Numbering.{AddsNumbers, HasNumbers, IsMaking, IsNumbered, IsStoredAs, SayParts, SaysNeeds, SaysNode, SaysPart}
pub use Rattle.kt_graph.specs.inner.nodes.Reached.{HasSame, IsPlaced, IsPushed, IsReachedAt, ReachesNumber, StaysPlaced, listed_in, place_held, place_marked, reached_text}
pub use Rattle.kt_graph.specs.inner.nodes.Stored.{AreRowsOf, AreStored, Grew, HasOnePart, HaveOneMaking, IsHeadOf, IsHeadWithin, IsLike, IsPartWithin, IsSpanWithin, PutsParts, StoredNode, StoredPart, cut, input_numbers, node_like, node_stored, nodes_stored, order_only_numbers, part_held, part_like, part_stored, parts_held, parts_stored, some_if, stored_at, stored_with}
pub use Rattle.kt_graph.specs.inner.search.Ends.{AreAllNoted, AreNoted, HasAll, IsFixedEnd, IsNoted, KeepsNoted, NotesAll, NotesEnd, candidate_numbered, candidates_numbered, numbers_at}
pub use Rattle.kt_graph.specs.nodes.Node.{bare_part, chosen_rule, double_node, explicit_node, implicit_node, kind_without, needs_after, node_by, node_with, other_rules, part_of, plain_node, searched, used_rule}
unfoldable pub use Rattle.kt_graph.specs.nodes.Node.{inputs_of, joined_needs, node_of, order_only_of, suffix_stem}
pub use Rattle.kt_graph.specs.inner.nodes.NodeTable.{NodeTable, instance_at, node_at, node_numbered, node_view, nodes_view, part_view}
pub use Rattle.kt_graph.specs.views.nodes.Node.{instance_view}
pub use Rattle.kt_graph.specs.search.Candidates.{are_short, by_size, candidate_by, candidate_with, drops_any, has_slash, left_out, matched_part, needed_name, nonempty, shorter, shortest, size_of, spelled_out, unless_long, without_any}
unfoldable pub use Rattle.kt_graph.specs.search.Candidates.{candidate_of, candidates_for, fit_of, matching_from, needed_names, stem_of}
pub use Rattle.kt_graph.specs.views.search.Search.{Asking, IsFoundByTrees, Search, question_eq, questions_among, questions_by, questions_for, questions_inside, choice_view, question_view, Question}
pub use Rattle.kt_graph.specs.search.Search.{Choosing, chain_limit, chosen_of, is_begun, is_inferred, is_met, is_used, open_candidates, unknown_needs}
unfoldable pub use Rattle.kt_graph.specs.views.search.Search.{HasTree, asking}
unfoldable pub use Rattle.kt_graph.specs.search.Search.{fitting, with_rule}
pub use Rattle.kt_graph.specs.inner.search.Candidates.{AreWithin, IsFitWithin, candidate_at, candidate_view, candidates_view, found_view, held_by_size, held_without_any, stays}
pub use Rattle.kt_list.specs.views.Names.{AreNumbersOf, name_at, names_at}
pub use Rattle.kt_list.proofs.NameLemmas.{number_found}
pub use Rattle.kt_list.proofs.NumberLemmas.{named_at, names_read, numbers_below, numbers_push, numbers_stay}
pub use Rattle.kt_list.proofs.general.Booleans.{and_first, and_nothing, and_second, equal_when, or_first, or_second, or_swap}
pub use Rattle.kt_list.proofs.general.Elements.{first_or_rest, from_flat_map, in_first, in_flat_map, in_rest, none_in_empty}
pub use Rattle.kt_list.proofs.general.Places.{at_place, head_is}
pub use Rattle.kt_rules.proofs.lemmas.book.NoteLemmas.{no_two, place_at, same_place}
pub use Rattle.kt_rules.specs.Book.{is_explicit, is_made, target_rules, is_terminal}
pub use Rattle.kt_rules.specs.views.Book.{rule_needs}
unfoldable pub use Rattle.kt_rules.specs.Book.{explicit_rules, first_goal_by, is_phony, patterns_of, recipes_of, refusal_of, rules_of}
pub use Rattle.kt_rules.specs.Entry.{no_needs}
unfoldable pub use Rattle.kt_rules.specs.Entry.{head_names, rule_of, stemmed_names, stemmed_of}
unfoldable pub use Rattle.kt_rules.specs.Names.{after_dots, cut_pieces, cut_place, is_member, is_refused_name, is_refused_target, is_special, is_wildcard, is_without_effect, name_of, unquoted, without_dots, without_outer_separators, without_repeats, written_words}
pub use Rattle.kt_rules.specs.Suffixes.{is_suffix_rule}
unfoldable pub use Rattle.kt_rules.specs.Suffixes.{start_suffixes}
pub use Rattle.kt_rules.specs.views.Targets.{names_view, needed_view, needs_view}
pub use Rattle.kt_text.proofs.lemmas.MatchLemmas.{list_any-place, no_percent_found, pattern_cut, percent_found}
pub use Rattle.kt_text.proofs.lemmas.PlaceLemmas.{first_byte_place}
unfoldable pub use Rattle.kt_text.specs.Match.{has_percent, is_between, is_percent, pattern_back, pattern_front, stem_span}
unfoldable pub use Rattle.kt_text.specs.Words.{is_blank, is_separator, list_text, words_of}
pub use Rattle.memchr.specs.Find.{IsFirstByte, is_byte}
unfoldable pub use Rattle.memchr.specs.Find.{matches_from}
pub use Rattle.std.proofs.Common.{All, Bor, IfOk, [], ap, arith, drop, refl, rules, subst, sym, take, true≢false, ℕ}
pub use Rattle.std.proofs.lemmas.Bool.{and_from, and_parts, cases_Bool, cases_eq, cases_lt, cases_order, eq-eqb, eqb-false, eqb-true, false_from_ne_true, false≢true, le-leb, le-ltb, leb-true, lt-leb, lt-ltb, ltb-false, ltb-true, ne_eqb, not-false, not-true, not_from_false, or_cases, or_left, or_right}
pub use Rattle.std.proofs.lemmas.Cmp.{nat_cmp_total, nat_list_cmp_total, nat_list_eq_equiv, on_total, then_total, tied_itself}
pub use Rattle.std.proofs.lemmas.Fn.{always_returns_same, filter_same}
pub use Rattle.std.proofs.lemmas.List.{append-nil, append_assoc, drop-append-le, drop-drop, drop_all, drop_at, drop_more, get_or-append-add, get_or-append_right, get_or-map, get_or-replicate, get_or-set_other, get_or-set_same, get_or-take, get_or_append_left, get_or_at, get_or_default, get_or_past, length-append, length-drop, length-map, length-replicate, length-set, length-take, length_push, map-append, map-set, nil_from_length, reverse-append, reverse-reverse, set_past, take-append-drop, take-append-le, take-take, take_all, take_at, take_more, take_rest}
pub use Rattle.std.proofs.lemmas.List.Concat.{flat_map-append}
pub use Rattle.std.proofs.lemmas.List.Elements.{All-append, All-cons, All-contains, All-contains_itself, All-drop, All-filter, All-from_get_or, All-head, All-map, All-more, All-nil, All-push, All-tail, All-take, All-weaker, Contains-append_cases, Contains-append_left, Contains-append_right, Contains-get_or, Contains-push, Contains-push_cases, filter-append, filter_agree, filter_map-append, filter_passes, recursion_from_All}
pub use Rattle.std.proofs.lemmas.List.Folds.{flat_map-map, list_all-append, list_any-append}
pub use Rattle.std.proofs.lemmas.List.FromFn.{get_or-range_with_len, length-range_with_len, map-range_with_len_more}
pub use Rattle.std.proofs.lemmas.List.Sorted.{All-permutation, Contains-permutation, IsNonDecreasingBy-from_sort_by_key, IsPermutation-keeps, IsPermutation-map, IsPermutation-swap, IsPermutation-sym, answers_always, length_permutation, ranks_by, sorted_far}
pub use Rattle.std.proofs.lemmas.List.Sums.{fold-append, get_or-le-sum_by, prefix_len_stops, suffix_len_is, sum_by-append, sum_by-cons, sum_by-set}
pub use Rattle.std.proofs.lemmas.Map.Keys.{IsDistinct-IsPermutation, IsDistinct-cons, IsDistinct-head, IsDistinct-push, IsDistinct-tail, IsStrictlyIncreasing-dedup, apart_from_distinct, sorted_tail}
pub use Rattle.std.proofs.lemmas.Map.Text.{is_eq-slice_cmp}
pub use Rattle.std.proofs.lemmas.Map.Views.{All-after_first}
pub use Rattle.std.proofs.lemmas.Option.{MatchOption-at_none, MatchOption-at_some, get_or_from_slice_get, none-some, same_Some, slice_get-get_or, slice_get-map, slice_get_past, slice_get_read, slice_get_within, unwrap_or-slice_get}
pub use Rattle.std.proofs.lemmas.Result.{IfOk-weaker, on_err_weaker, on_ok_weaker}
pub use Rattle.std.proofs.lemmas.Slice.Eq.{bytes_eq-Decides}
pub use Rattle.std.specs.Cmp.Lexicographic.{pointwise, same_text}
pub use Rattle.std.specs.List.{AllByRecursion, cons_option, dedup, ends_with, filter_map, find, flat_map, last_or, position, position_from, position_or_len, prefix_len, slice_index, starts_with, suffix_len, swap}
unfoldable pub use Rattle.std.specs.List.{IsDistinct}
pub use Rattle.std.specs.List.Sorted.{IsNonDecreasingBy, IsPermutation, IsSorted, IsSortedBy, IsStableByKey, IsStrictlyIncreasing, ties}
unfoldable pub use Rattle.std.specs.List.Sorted.{IsStrictlySortedBy}
pub use Rattle.std.specs.Option.{option_map, option_or, unwrap_or}
pub use Rattle.std.specs.Ordering.{MatchOrdering, is_eq, is_lt, ordering_reverse}
pub use Rattle.std.specs.Str.{bytes_eq}
pub use Rattle.std.specs.declared.cmp.Ordering.{Ordering}
pub use Rattle.std.specs.declared.cmp.Ordering.TheVariants.{Equal, Greater, Less}
pub use Rattle.kt_graph.specs.inner.Prelude.{AreBelow, Candidate, Explicit, HasMore, IsPrefix, Leaf, Needs, NodeKind, Part, Target, after_last, all_needs, before_last, count_by, group_of, has_recipe, is_double, list_all, needs_for, needs_with, option_and_then, option_to_list, ordering_then, own_part, place_of, range_with_len, rule_view, slice_range, suffixes_of, with_name, with_question}
pub use Rattle.kt_graph.specs.Prelude.{Contains, Entry, Node, Text, all_inputs, is_leaf, is_nonempty, join_with_byte, nat_cmp, option_map_or, slice_cmp, slice_split}
pub use Rattle.kt_graph.specs.views.Prelude.{HeldQuestion, Implicit, List, is_among, list_any, map, of_group, of_pattern}
pub use Rattle.kt_graph.specs.search.Search.{choice_of}
