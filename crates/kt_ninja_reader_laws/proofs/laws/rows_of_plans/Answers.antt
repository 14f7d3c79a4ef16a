use Rattle.std.proofs.Common.{arith}
use Rattle.kt_ninja_reader.proofs.Common.{file_lines, ends_in_dollar, is_comment, joined_from, joined_lines, pieces_from, pieces, spelled_words, name_bytes, binding_of, build_of, defaults_of, rule_name_in, margin_form, find_in, put_in, bound_text, shell_word, shell_words, command_value, cut_lines, block_from, bind_variable, read_rule, block_scope, making_of, paths_in, are_new, read_build, read_default, read_part, read_parts, made_of, statement_of_pending, plan_of_state, ninja_read}
use Rattle.kt_ninja_reader_laws.proofs.laws.rows_of_plans.Goals as goal

pub returns : goal.returns
unfolding file_lines ends_in_dollar is_comment joined_from joined_lines pieces_from pieces spelled_words name_bytes binding_of build_of defaults_of rule_name_in margin_form find_in put_in bound_text shell_word shell_words command_value cut_lines block_from bind_variable read_rule block_scope making_of paths_in are_new read_build read_default read_part read_parts made_of statement_of_pending plan_of_state ninja_read
returns c = grind arith
