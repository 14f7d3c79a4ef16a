-- The names that most definitions of this folder cite, passed on from one place. Declares nothing.
pub use Rattle.kt_list.specs.views.Names.{AreBelow, place_of}
pub use Rattle.kt_rules.specs.Entry.{head_names, is_nil, tested_line}
pub use Rattle.kt_rules.specs.Names.{is_wildcard, name_of, wait_name, without_repeats, written_words}
pub use Rattle.kt_rules.specs.RuleLine.{Head, name_refusal, option_list}
pub use Rattle.kt_rules.specs.declared.book.spot.Spot.{Spot}
pub use Rattle.kt_rules.specs.declared.line.head.Separator.TheVariants.{Single}
pub use Rattle.kt_rules.specs.declared.line.head_names.HeadNames.{HeadNames}
pub use Rattle.kt_text.specs.Match.{has_percent}
pub use Rattle.kt_text.specs.Words.{is_colon}
pub use Rattle.std.specs.List.{All, ends_with, position_from}
