-- The names that most proofs cite, passed on from one place. Declares nothing.
unfoldable pub use Rattle.clap.proofs.OnLiterals.{clap_on_literals}
pub use Rattle.clap.proofs.WalkLemmas.{first_value-rows, raw_values-rows}
pub use Rattle.clap.specs.Facts.{Entry, EntryPasses, PassesArg, args_of, groups_of, parser_of, parser_of_value, unwrap_or_range}
pub use Rattle.clap.specs.Simple.{Shape, argument_words, built, has_plain_fields}
pub use Rattle.clap.specs.Walk.{Held, Names, Row, Rule, Step, Waiting, Walk, action_of, arg_by_id, arg_by_index, arg_by_long, arg_by_short, attached_value, finished, has_row, is_empty, is_pending, is_simple_arg, most_values, next, nothing_held, reacted, settled, subcommand, subcommand_met, takes_several, takes_values, trailing, value, values_or_missing, walk, walk_from, walked, word_met}
pub use Rattle.clap.specs.Words.{App, FailsBy, HasKind, IsAmong, IsParsedFrom, IsUnsignedIn, Kinds, SameRules, app_of, first_of, first_value, found_of, is_simple_and_free, kind_of, new_app, rows_of, rule_of}
pub use Rattle.clap.specs.declared.error.Error.{Error}
pub use Rattle.clap.specs.declared.error.kind.ErrorKind.{ErrorKind}
pub use Rattle.clap.specs.declared.error.kind.ErrorKind.TheVariants.{DisplayHelp, InvalidValue, OutOfMemory, UnknownArgument, ValueValidation}
unfoldable pub use Rattle.kt_text.specs.Words.{is_separator}
pub use Rattle.std.proofs.Common.{map, refl, string_bytes}
pub use Rattle.std.proofs.lemmas.Bool.{and_from, cases_Bool, eqb-true, le-leb, le-ltb, lt-ltb, ltb-false}
pub use Rattle.std.proofs.lemmas.Result.{IfErr-weaker, IfOk-weaker}
pub use Rattle.std.specs.Borrow.{Bor}
pub use Rattle.std.specs.List.{All, after_first, list_all, position_or_len, slice_index_or}
pub use Rattle.std.specs.Str.{bytes_eq, chars}
pub use Rattle.kati_args.specs.Prelude.{Text, is_equals, takes, with_rule}
pub use Rattle.clap.specs.Words.{fault_of, matches_of}
