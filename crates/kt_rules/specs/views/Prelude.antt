-- The names that most definitions of this folder cite, passed on from one place. Declares nothing.
pub use Rattle.kt_rules.specs.Entry.{rule_by, stemmed_names, target_of}
pub use Rattle.kt_rules.specs.Names.{without_dots}
pub use Rattle.kt_rules.specs.declared.book.book_rule.BookRule.{BookRule}
pub use Rattle.std.specs.List.{AllPairs, enumerate_from}
pub use Rattle.std.specs.Prelude.{List, [], bytes_eq, option_map, unwrap_or}
pub use Rattle.std.specs.declared.alloc.Global.{Global}
pub use Rattle.std.specs.declared.vec.Vec.{Vec}
