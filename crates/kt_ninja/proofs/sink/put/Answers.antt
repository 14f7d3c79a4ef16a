use Rattle.std.proofs.Common.{◌∙◌, ◌<◌, length, ap, arith}
use Rattle.std.proofs.lemmas.List.{take_rest}
use Rattle.kt_ninja.proofs.Growth.{taken_twice, front_of_rest, front_taken}
use Rattle.kt_ninja.proofs.sink.put.Goals as goal

pub returns-in-Ok-eq0-clause-fault : goal.returns-in-Ok-eq0-clause-fault
returns-in-Ok-eq0-clause-fault g c = grind (arith, front_of_rest, front_taken, take_rest)

pub loop-done-preserved : goal.loop-done-preserved
loop-done-preserved g c = record {
  within = grind arith;
  taken = taken_twice (g.W.Sink.seen c.args.sink.now) (g.W.Sink.seen c.loop-done.sink) (g.W.Sink.seen c.write.new.self)
      c.loop-done.done c.in-Ok.taken c.args.piece.now c.loop-done.invariant.taken (rw take_rest at c.in-Ok.ensures.takes);
  steady = c.in-Ok.ensures.holds (omega arith) ∙ c.loop-done.invariant.steady;
  empty = λ none. absurd (let bad : c.loop-done.done < length c.args.piece.now = c.loop-done-test.true in omega (arith, bad, ap length none));
}
