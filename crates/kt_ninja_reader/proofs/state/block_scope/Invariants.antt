use Rattle.std.proofs.Common.{◌≡◌, [], drop, map}
use Rattle.kt_ninja_reader.proofs.Common.{block_scope, binding_view}
use Rattle.kt_ninja_reader.proofs.state.block_scope.Given as goal

abbrev pub invariant-loop-binding : goal.invariant-loop-binding
invariant-loop-binding l = block_scope l.file l.block (map binding_view (drop l.binding-index l.bindings)) ≡ block_scope l.file [] (map binding_view l.bindings)
