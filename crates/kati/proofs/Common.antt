-- The names that most proofs cite, passed on from one place. Declares nothing.
pub use Rattle.kati.specs.Devices.{devices}
pub use Rattle.kati.specs.Meaning.{Meaning, Means, MeansAfter, MeansGoals, WantedGoals, meaning_of, prepared, wanted_by}
pub use Rattle.kati.specs.plan.Planning.{always_build, always_built, command_for, first_output, has_implicit, has_phony, implicit_of, joined_inputs, joined_order_only, outs_of, plan_of, plan_unless, text_fault}
unfoldable pub use Rattle.kati.specs.plan.Planning.{plan_groups, planned, statement_of, unwritable_in, with_always_built, written}
pub use Rattle.kt_eval.proofs.lemmas.GrowingLemmas.{front_next, front_same}
pub use Rattle.kt_eval.proofs.lemmas.LastLemmas.{last_after}
pub use Rattle.kt_eval.specs.views.Outcome.{AsksNothing, Ends, Fails, Gives, IfCut, IsOfNoDevice, BlamesBy}
pub use Rattle.kt_eval.specs.Outcome.{Stopped, done, then_do}
pub use Rattle.kt_eval.specs.declared.stop.Stop.{Stop}
pub use Rattle.kt_eval.specs.views.reading.Machine.{ComesBefore}
pub use Rattle.kt_eval.specs.reading.Machine.{first_read, first_world, trace_of}
pub use Rattle.kt_graph.proofs.lemmas.MemberLemmas.{Contains-from_map, Contains-map, Contains-none}
pub use Rattle.kt_graph.proofs.lemmas.Membership.{all_pass, each_passes, in_filter, kept_by_filter}
pub use Rattle.kt_graph.proofs.lemmas.faults.TroubleLemmas.{comes_first, file_trouble, is_reserved_there}
pub use Rattle.kt_graph.proofs.lemmas.nodes.FoundLemmas.{found_nowhere, none_below}
pub use Rattle.kt_graph.proofs.lemmas.nodes.MadeLemmas.{chosen_is, node_name}
pub use Rattle.kt_graph.proofs.lemmas.nodes.ReachLemmas.{reached_on}
pub use Rattle.kt_graph.proofs.lemmas.nodes.WholeLemmas.{Contains-from_filter_map, group_cases, mapped_itself}
pub use Rattle.kt_graph.proofs.lemmas.search.UnknownLemmas.{from_without_repeats}
pub use Rattle.kt_graph.specs.Reach.{AreOneMaking, HasEdge, HasInput, IsCyclic, IsFirst, IsGraph, IsInGroup, IsReached, IsSound, Leads, beside, circular, itself, no_rule, one_file, reserved_name, unmade_goal}
pub use Rattle.kt_graph.specs.views.faults.Faults.{ReportsFirst}
unfoldable pub use Rattle.kt_graph.specs.faults.Paths.{canon_of, components_of}
pub use Rattle.kt_graph.specs.views.nodes.Groups.{AreGroups, leader_name}
pub use Rattle.kt_graph.specs.nodes.Groups.{are_together, is_leading, is_one_making, made_nodes}
unfoldable pub use Rattle.kt_graph.specs.nodes.Groups.{groups_among}
pub use Rattle.kt_graph.specs.nodes.Node.{Instance, Part, all_inputs, bare_part, chosen_rule, double_node, is_leaf, needs_after, node_by, other_rules, own_part, searched, used_rule}
unfoldable pub use Rattle.kt_graph.specs.nodes.Node.{inputs_of, joined_needs, node_of, order_only_of}
pub use Rattle.kt_graph.specs.search.Candidates.{Candidate, are_short, candidate_by, candidate_with, directory_with_slash, has_slash, left_out, matched_part, needed_name, nonempty, shorter, shortest, size_of, spelled_out, unless_long, without_any}
unfoldable pub use Rattle.kt_graph.specs.search.Candidates.{candidate_of, candidates_for, fit_of, matching_from, needed_names, stem_of}
pub use Rattle.kt_list.proofs.general.Elements.{first_or_rest, from_flat_map, in_first, in_flat_map, in_rest}
pub use Rattle.kt_list.specs.Prefixes.{IsPrefix}
pub use Rattle.kt_ninja.proofs.Deciding.{texts_exactly, texts_unobstructed}
pub use Rattle.kt_ninja.proofs.Growth.{front_after, front_of_more, takes_twice}
pub use Rattle.kt_ninja.specs.Plan.{names_of, made_by}
pub use Rattle.kt_ninja.specs.Writable.{HasWritableTexts, is_command_byte, is_empty, is_name, is_writable_making, no_output, not_an_output, repeated}
pub use Rattle.kt_ninja.specs.views.Writable.{told_obstacle}
pub use Rattle.kt_ninja_reader.proofs.lemmas.PrintThenRead.{printed_is_read}
pub use Rattle.kt_recipe.proofs.GaveLemmas.{gave_both}
pub use Rattle.kt_rules.specs.Entry.{needs_for}
pub use Rattle.kt_rules.specs.Names.{is_among, with_name}
unfoldable pub use Rattle.kt_rules.specs.Names.{after_dots, without_dots, without_repeats}
pub use Rattle.kt_rules.specs.Suffixes.{all_needs, is_suffix_rule, suffixes_of}
pub use Rattle.kt_rules.specs.declared.line.entry.Target.{Target}
pub use Rattle.kt_text.specs.Functions.{name_part, with_stem, word_set}
pub use Rattle.std.proofs.Common.{[], ap, arith, refl, rules, subst, sym}
pub use Rattle.std.proofs.lemmas.Bool.{and_from, and_parts, eq-eqb, false≢true, leb-true, ltb-false, or_from, or_parts, or_right, true≢false}
pub use Rattle.std.proofs.lemmas.List.{append_assoc, drop_more, length-append, length-drop, map-append, take-append-drop, take_rest}
pub use Rattle.std.proofs.lemmas.List.Concat.{flat_map-cons}
pub use Rattle.std.proofs.lemmas.List.Elements.{All-cons, All-contains, All-nil, Contains-append_cases, Contains-append_left, Contains-append_right}
pub use Rattle.std.proofs.lemmas.List.Folds.{flat_map-map, list_any-append}
pub use Rattle.std.proofs.lemmas.List.Sums.{fold-append}
pub use Rattle.std.proofs.lemmas.Map.Keys.{sorted_tail}
pub use Rattle.std.proofs.lemmas.Map.Views.{All-after_first}
pub use Rattle.std.proofs.lemmas.Option.{get_or_from_slice_get, none-some, same_Some, slice_get-get_or, slice_get-map, slice_get_past, slice_get_read}
pub use Rattle.std.proofs.lemmas.Slice.Eq.{bytes_eq-Decides, starts_is}
pub use Rattle.std.specs.Cmp.Lexicographic.{pointwise, slice_cmp}
pub use Rattle.std.specs.List.{All, after_last, before_last, last_or, list_all}
pub use Rattle.std.specs.List.Sorted.{IsStrictlySortedBy}
pub use Rattle.std.specs.Option.{option_and_then, option_map_or, option_to_list}
pub use Rattle.std.specs.Ordering.{is_eq, is_lt, nat_cmp, ordering_reverse}
pub use Rattle.std.specs.Str.{bytes_eq}
pub use Rattle.std.specs.declared.cmp.Ordering.{Ordering}
pub use Rattle.std.specs.declared.cmp.Ordering.TheVariants.{Equal, Greater, Less}
pub use Rattle.kati.specs.Prelude.{AllPairs, Args, ComesFirst, Contains, Devices, Entry, Fault, Gave, GrowsByFront, IsMade, IsSoundGraph, IsWritable, Macros, Makefile, Node, Plan, Reaches, Rises, RunFault, SinkSeen, Statement, Status, StepOver, Store, Takes, Text, Trace, Trouble, always_name, fault_at, trouble_number, trouble_words, groups_of, is_reserved, known_names, leaving, list_any, look, obstacle_of_statements, outputs, predefined, read_of, traced}
pub use Rattle.kt_eval.specs.files.Files.{FilesSeen}
pub use Rattle.kati.specs.inner.Prelude.{Obstacle, ShareInputs, StepEnd, bad_command, bad_name}
pub use Rattle.kt_eval.specs.Outcome.{left_of}
pub use Rattle.std.specs.List.{slice_range}
