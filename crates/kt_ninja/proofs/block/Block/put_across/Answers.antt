use Rattle.kt_ninja.proofs.Common.{List, ℕ, arith, sym, subst, take-add, take_rest}
use Rattle.kt_ninja.specs.inner.Blocks.{Puts}
use Rattle.kt_ninja.proofs.Putting.{puts_then}
use Rattle.kt_ninja.proofs.block.Block.put_across.Goals as goal

pub loop-done-preserved : goal.loop-done-preserved
loop-done-preserved g c = record {
  within = grind arith;
  puts =
      let P : List ℕ → Type 0 = λ t. Puts g.W.Sink.seen c.args.self.now c.fill-done.new.self t in
      subst P (sym (take-add c.loop-done.done c.fill-done.result c.args.piece.now))
      (puts_then _ _ c.loop-done.invariant.puts (record { passes = rw take_rest at c.fill-done.ensures.passes; hands = rw take_rest at c.fill-done.ensures.hands }));
}
