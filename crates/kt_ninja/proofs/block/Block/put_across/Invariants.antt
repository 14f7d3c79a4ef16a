use Rattle.std.proofs.Common.{length, take, ◌-◌, ◌≤◌}
use Rattle.kt_ninja.specs.inner.Blocks.{Puts}
use Rattle.kt_ninja.proofs.block.Block.put_across.Given as goal

abbrev pub invariant-loop-done : goal.invariant-loop-done
invariant-loop-done g l = record {
  within : l.done ≤ length l.piece;
  puts : Puts g.W.Sink.seen l.fn.self l.self (take l.done l.piece);
}

abbrev pub decreases-loop-done : goal.decreases-loop-done
decreases-loop-done g l = length l.piece - l.done
