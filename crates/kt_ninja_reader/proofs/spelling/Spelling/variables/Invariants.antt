use Rattle.std.proofs.Common.{◌≡◌, ◌++◌, length, map}
use Rattle.kt_ninja_reader.specs.inner.Cutting.{variable_names}
use Rattle.kt_ninja_reader.proofs.spelling.Spelling.variables.Given as goal

abbrev pub invariant-loop-dollar : goal.invariant-loop-dollar
invariant-loop-dollar l = map (λ name. name.now) l.names.items ++ variable_names l.rest ≡ variable_names l.self

abbrev pub decreases-loop-dollar : goal.decreases-loop-dollar
decreases-loop-dollar l = length l.rest
