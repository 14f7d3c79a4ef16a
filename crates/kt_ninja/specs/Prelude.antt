-- The names that most definitions cite, of the crates below and of the code, passed on from one place. Declares
-- nothing.
pub use Rattle.kt_ninja.specs.declared.plan.Made.{Made}
pub use Rattle.kt_ninja.specs.declared.plan.Made.TheVariants.{Command, Phony}
pub use Rattle.kt_ninja.specs.declared.plan.Plan.{Plan}
pub use Rattle.kt_ninja.specs.declared.plan.Statement.{Statement}
pub use Rattle.std.specs.List.{concat, flat_map, list_all}
pub use Rattle.std.specs.Option.{option_or}
