-- The names that most definitions of this folder cite, passed on from one place. Declares nothing.
pub use Rattle.kt_syntax.specs.Kinds.{assignment_parts, block_word}
pub use Rattle.kt_text.specs.Words.{is_blank}
pub use Rattle.std.specs.List.{list_all}
pub use Rattle.std.specs.Prelude.{List, None, Option, Some, slice_get, suc, unwrap_or, zero, ℕ}
