-- The names that most definitions of this folder cite, passed on from one place. Declares nothing.
pub use Rattle.kt_eval.specs.Outcome.{StepEnd}
pub use Rattle.kt_graph.specs.views.nodes.Groups.{ShareInputs}
pub use Rattle.kt_ninja.specs.Writable.{Obstacle, bad_command, bad_name}
pub use Rattle.std.specs.Prelude.{Bool, List, false, true}
