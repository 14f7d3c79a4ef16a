use Rattle.std.proofs.Common.{◌≡◌, ◌++◌, false, drop, map, option_map}
use Rattle.kt_ninja_reader.proofs.Common.{block_from, binding_view}
use Rattle.kt_ninja_reader.proofs.ninja_read.block.Given as goal

abbrev pub invariant-loop-line : goal.invariant-loop-line
invariant-loop-line l = option_map (λ more. map binding_view l.bindings.items ++ more) (block_from l.closed (drop l.line-index l.body)) ≡ block_from false l.body
