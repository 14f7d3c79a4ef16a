-- The names that most definitions cite, of the crates below and of the code, passed on from one place. Declares
-- nothing.
pub use Rattle.kt_syntax.specs.Kinds.{line_form, past_word}
pub use Rattle.kt_syntax.specs.Mask.{inside, mask_of}
pub use Rattle.kt_syntax.specs.declared.form.Directive.{Directive}
pub use Rattle.kt_syntax.specs.declared.part.BlockPart.{BlockPart}
pub use Rattle.kt_syntax.specs.declared.part.Missing.{Missing}
pub use Rattle.kt_syntax.specs.declared.part.Stray.{Stray}
pub use Rattle.kt_syntax.specs.declared.recipe.Joint.TheVariants.{Edge, Inside, Newline, Outside}
pub use Rattle.kt_syntax.specs.declared.role.NumberedRole.{NumberedRole}
pub use Rattle.kt_syntax.specs.declared.role.Role.{Role}
pub use Rattle.kt_syntax.specs.declared.step.BlockStep.{BlockStep}
pub use Rattle.kt_text.specs.Lines.{condensed_of}
pub use Rattle.kt_text.specs.Words.{Text, trimmed_end, trimmed_start}
pub use Rattle.std.specs.List.{position_or_len, slice_range, starts_with}
