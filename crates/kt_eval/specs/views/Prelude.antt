-- The names that most definitions of this folder cite, passed on from one place. Declares nothing.
pub use Rattle.kt_eval.specs.Outcome.{Gave, StepEnd, Stopped, left_of}
pub use Rattle.kt_eval.specs.Step.{fault_at}
pub use Rattle.kt_eval.specs.declared.stop.Stop.{Stop}
pub use Rattle.kt_eval.specs.views.Outcome.{AsksNothing, Gives, IfCut}
pub use Rattle.kt_list.specs.Prefixes.{IsPrefix}
pub use Rattle.std.specs.Prelude.{Result}
