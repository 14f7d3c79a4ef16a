use Rattle.std.proofs.Common.{length, take, ◌-◌, ◌≡◌, ◌≤◌, []}
use Rattle.kt_ninja.specs.Written.{Takes}
use Rattle.kt_ninja.proofs.sink.put.Given as goal

abbrev pub invariant-loop-done : goal.invariant-loop-done
invariant-loop-done g l = record {
  within : l.done ≤ length l.piece;
  taken : Takes (g.W.Sink.seen l.fn.sink) (g.W.Sink.seen l.sink) (take l.done l.piece);
  steady : (g.W.Sink.seen l.sink).failed ≡ (g.W.Sink.seen l.fn.sink).failed;
  empty : l.piece ≡ [] → l.sink ≡ l.fn.sink;
}

abbrev pub decreases-loop-done : goal.decreases-loop-done
decreases-loop-done g l = length l.piece - l.done
