use Rattle.std.proofs.Common.{◌≡◌, ◌++◌, drop, option_map}
use Rattle.kt_ninja_reader.proofs.Common.{paths_in, value_within}
use Rattle.kt_ninja_reader.proofs.paths.paths_within.Given as goal

abbrev pub invariant-loop-spelling : goal.invariant-loop-spelling
invariant-loop-spelling l =
    option_map (λ more. l.names.items ++ more) (paths_in (value_within l.scopes.block.now l.scopes.file.now) (drop l.spelling-index l.paths))
    ≡ paths_in (value_within l.scopes.block.now l.scopes.file.now) l.paths
