-- The names that most definitions cite, of the crates below and of the code, passed on from one place. Declares
-- nothing.
pub use Rattle.kt_list.specs.Names.{is_among}
pub use Rattle.kt_ninja.specs.Writable.{is_empty}
pub use Rattle.kt_ninja.specs.declared.plan.Made.{Made}
pub use Rattle.kt_ninja.specs.declared.plan.Made.TheVariants.{Command, Phony}
pub use Rattle.kt_ninja.specs.declared.plan.Plan.{Plan}
pub use Rattle.kt_ninja.specs.declared.plan.Statement.{Statement}
pub use Rattle.kt_ninja_reader.specs.JoinedLines.{Bytes}
pub use Rattle.kt_ninja_reader.specs.Pieces.{pieces}
pub use Rattle.std.specs.List.{flat_map, join_with_byte, list_all, list_any}
pub use Rattle.std.specs.Option.{option_and_then}
pub use Rattle.std.specs.Str.{bytes_eq}
