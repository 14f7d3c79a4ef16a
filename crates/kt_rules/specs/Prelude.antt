-- The names that most definitions cite, of the crates below and of the code, passed on from one place. Declares
-- nothing.
pub use Rattle.kt_list.specs.Names.{is_among}
pub use Rattle.kt_rules.specs.Entry.{Entry, needs_for}
pub use Rattle.kt_rules.specs.Names.{with_name}
pub use Rattle.kt_rules.specs.declared.line.entry.Kind.{Kind}
pub use Rattle.kt_rules.specs.declared.line.entry.Kind.TheVariants.{DoubleColon, Group, Pattern, SingleColon, TerminalPattern}
pub use Rattle.kt_rules.specs.declared.line.entry.Needs.{Needs}
pub use Rattle.kt_rules.specs.declared.line.entry.Target.{Target}
pub use Rattle.kt_rules.specs.declared.place.Place.{Place}
pub use Rattle.kt_text.specs.Words.{Text, words_of}
pub use Rattle.std.specs.List.{list_any, range_with_len}
pub use Rattle.std.specs.Option.{option_map_or, option_or}
