use Rattle.std.proofs.Common.{◌≡◌, ◌++◌, drop}
use Rattle.kt_ninja_reader.specs.NinjaRead.{are_new}
use Rattle.kt_ninja_reader.proofs.state.add_outs.Given as goal

abbrev pub invariant-loop-out : goal.invariant-loop-out
invariant-loop-out l = record {
  still : are_new l.names (drop l.out-index l.outs) ≡ are_new l.fn.names l.outs;
  added : l.names ++ drop l.out-index l.outs ≡ l.fn.names ++ l.outs;
}
