-- The names that most definitions of this folder cite, passed on from one place. Declares nothing.
pub use Rattle.kt_eval.specs.inner.Evaluation.{Evaluation, GoesOn, Keeps, files_of}
pub use Rattle.kt_eval.specs.macros.Macros.{Assigning, defers, escapes, expands, keeps}
pub use Rattle.kt_eval.specs.views.Outcome.{Blames}
