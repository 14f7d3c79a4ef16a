-- The names that most definitions of this folder cite, passed on from one place. Declares nothing.
pub use Rattle.kt_ninja_reader.specs.JoinedLines.{JoinedLine}
pub use Rattle.kt_ninja_reader.specs.Pieces.{Piece, outside, pieces_from}
pub use Rattle.kt_ninja_reader.specs.declared.read_fault.PartFault.{PartFault}
pub use Rattle.kt_ninja_reader.specs.declared.read_fault.PartFault.TheVariants.{Memory, NoReading}
pub use Rattle.std.specs.Prelude.{Bool, List, None, Some, [], is_some, option_map, unwrap_or}
