-- The names that most proofs cite, passed on from one place. Declares nothing.
pub use Rattle.kt_list.specs.Names.{with_name}
pub use Rattle.kt_ninja.specs.Plan.{names_of, outputs}
pub use Rattle.kt_ninja.specs.Text.{command_text, defaults_text, escaped, is_special_in_command, is_special_in_name, lead_text, marked_text, names_text, rule_count, rule_name_text, rule_text, statements_text}
unfoldable pub use Rattle.kt_ninja.specs.Text.{number_text, plan_text}
pub use Rattle.kt_ninja.specs.Writable.{IsWritable, is_command, is_command_byte, is_name, is_path_byte, is_writable_making}
pub use Rattle.kt_ninja.specs.views.Writable.{repeated_after}
pub use Rattle.kt_ninja_reader.specs.Forms.{Binding, Build, BuildInputs, MarginForm, Spelling, begins_with_at, bound_to, build_after, build_cut, build_form, build_inputs, build_with, default_form, is_keyword, is_plain_byte, paths_of, rule_form, single_name, without_lead}
unfoldable pub use Rattle.kt_ninja_reader.specs.Forms.{binding_of, build_of, defaults_of, margin_form, name_bytes, rule_name_in, spelled_words}
pub use Rattle.kt_ninja_reader.specs.JoinedLines.{FileLine, first_number, goes_on, joined_text, left_over, with_byte, without_indent}
unfoldable pub use Rattle.kt_ninja_reader.specs.JoinedLines.{ends_in_dollar, file_lines, is_comment, joined_from, joined_lines}
pub use Rattle.kt_ninja_reader.specs.NinjaRead.{FilePart, Making, PendingStatement, State, add_defaults, add_statement, all_parts, and_then_parts, begins_part, block_of, by_nothing, by_rule, cut_with, is_file_byte, is_sound, nothing_read, pending_outs, pending_with, plan_in, read_form, read_head, rule_command}
unfoldable pub use Rattle.kt_ninja_reader.specs.NinjaRead.{are_new, bind_variable, block_from, block_scope, cut_lines, made_of, making_of, ninja_read, paths_in, plan_of_state, read_build, read_default, read_part, read_parts, read_rule, statement_of_pending}
pub use Rattle.kt_ninja_reader.specs.Pieces.{Escaped, PieceStep, Plain, Variable, Where, after_dollar, in_braces, in_name, is_escapable, is_letter_or_digit, is_long_name_byte, is_short_name_byte, last_pieces, outer_step, step}
unfoldable pub use Rattle.kt_ninja_reader.specs.Pieces.{pieces, pieces_from}
pub use Rattle.kt_ninja_reader.specs.Scopes.{Scope, ScopeTable, byte_in_quotes, names_one, piece_text, refers_to, value_in, value_within}
unfoldable pub use Rattle.kt_ninja_reader.specs.Scopes.{bound_text, command_value, find_in, put_in, shell_word, shell_words}
pub use Rattle.kt_ninja_reader.specs.declared.joined.OpenLine.{OpenLine}
pub use Rattle.kt_ninja_reader.specs.declared.spelling.DollarCut.{DollarCut}
pub use Rattle.kt_ninja_reader.specs.inner.Wording.{bars_cut, binding_view, build_view, not_keyword, some_word, two_of}
unfoldable pub use Rattle.kt_ninja_reader.specs.inner.Wording.{key_of}
pub use Rattle.memchr.specs.Find.{IsFirstByte, is_byte, is_byte2}
pub use Rattle.std.proofs.Common.{ap, refl}
pub use Rattle.std.proofs.Math.Seq.{drop-cons, take-append-add, take-append_seam}
pub use Rattle.std.proofs.lemmas.Bool.{and_from, and_parts, cases_Bool, eq-eqb, eqb-true, false_from_ne_true, false≢true, ne_eqb, not-true, or_left, or_right}
pub use Rattle.std.proofs.lemmas.List.{append_cancel_left, drop-drop, drop_all, drop_more, length-drop, map_push, nil_from_length}
pub use Rattle.std.proofs.lemmas.List.Concat.{flat_map-append}
pub use Rattle.std.proofs.lemmas.List.Folds.{list_all-append}
pub use Rattle.std.proofs.lemmas.List.Sums.{position_or_len_is}
pub use Rattle.std.proofs.lemmas.Result.{err_from_is_err_and, on_ok_weaker}
pub use Rattle.std.specs.Borrow.{Bor}
pub use Rattle.std.specs.Cmp.Lexicographic.{other_text, pointwise, same_text}
pub use Rattle.std.specs.List.{after_first, before_first, onto_first, position_or_len, prefix_len, slice_split, starts_with}
pub use Rattle.kt_ninja_reader.specs.Prelude.{Bytes, Command, Made, Phony, Plan, Statement, bytes_eq, flat_map, is_among, is_empty, join_with_byte, list_all, list_any, option_and_then}
pub use Rattle.kt_ninja_reader.specs.inner.Prelude.{JoinedLine, Memory, NoReading, PartFault, Piece, outside}
pub use Rattle.std.specs.List.{concat}
pub use Rattle.kt_ninja_reader.specs.JoinedLines.{is_blank_line}
