-- The names that most definitions of this folder cite, passed on from one place. Declares nothing.
pub use Rattle.kt_eval.specs.Outcome.{Gave}
pub use Rattle.kt_eval.specs.Step.{Step}
pub use Rattle.kt_eval.specs.macros.Macros.{find}
pub use Rattle.kt_recipe.specs.Automatic.{has_parts, marks, subject_names_in}
pub use Rattle.kt_recipe.specs.declared.forms.NamePart.{NamePart}
pub use Rattle.kt_recipe.specs.declared.subjects.Subject.{Subject}
