-- The names that most definitions cite, of the crates below and of the code, passed on from one place. Declares
-- nothing.
pub use Rattle.bstr.specs.Text.{lines_of, replaced_at, without_terminator}
pub use Rattle.kt_text.specs.Words.{Text, is_nonempty, list_text, trimmed_end, trimmed_start, words_of}
pub use Rattle.kt_text.specs.declared.line.Line.{Line}
pub use Rattle.std.specs.Cmp.Lexicographic.{slice_cmp}
pub use Rattle.std.specs.List.{after_first, before_first, ends_with, list_all, list_any, slice_get, slice_range, starts_with, suffix_len}
pub use Rattle.std.specs.Ordering.{nat_cmp}
pub use Rattle.std.specs.Prelude.{bytes_eq}
