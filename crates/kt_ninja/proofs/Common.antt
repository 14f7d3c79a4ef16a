-- The names that most proofs cite, passed on from one place. Declares nothing.
pub use Rattle.kt_list.proofs.general.Places.{at_place}
pub use Rattle.kt_list.specs.Names.{is_among}
pub use Rattle.kt_ninja.specs.Text.{defaults_text, escaped, marked_text, name_text, names_text, rule_count, rule_name_text, rule_text, statement_text, statements_text}
unfoldable pub use Rattle.kt_ninja.specs.Text.{number_text, plan_text}
pub use Rattle.kt_ninja.specs.Writable.{HasWritableTexts, IsWritable, Obstacle, bad_command, bad_name, is_empty, is_name, is_writable_making, no_output, not_an_output, obstacle_of_statement, obstacle_of_statements, repeated}
pub use Rattle.kt_ninja.specs.views.Writable.{first_obstacle, not_made, obstacle_in, repeated_after, told_obstacle}
pub use Rattle.kt_ninja.specs.declared.block.Block.{Block}
pub use Rattle.memchr.specs.Find.{IsFirstByte, NoneBefore, Nowhere, Passes}
pub use Rattle.std.proofs.Common.{List, arith, codes, length, nat_eq, option_map, rules, slice_get, subst, sym, ℕ}
pub use Rattle.std.proofs.Math.Seq.{take-add}
pub use Rattle.std.proofs.lemmas.Bool.{and_from, false_from_ne_true, not_from_false, or_from, or_parts}
pub use Rattle.std.proofs.lemmas.List.{drop_all, drop_more, length-append, take-append-drop, take_all, take_more, take_rest}
pub use Rattle.std.proofs.lemmas.List.Folds.{find-append, list_all_at, list_any-append}
pub use Rattle.std.specs.Borrow.{Bor}
pub use Rattle.std.specs.Cmp.Lexicographic.{other_text, same_text}
pub use Rattle.std.specs.List.{AllByRecursion, list_any}
unfoldable pub use Rattle.std.specs.List.{IsDistinct}
pub use Rattle.kt_ninja.specs.Prelude.{Statement, concat, list_all, option_or}
pub use Rattle.std.specs.Cmp.Lexicographic.{pointwise}
pub use Rattle.std.specs.List.{position_from}
