use Rattle.kt_ninja.proofs.Common.{length, escaped}
use Rattle.kt_ninja.specs.inner.Escaping.{is_escaped}
use Rattle.kt_ninja.proofs.Putting.{PutsUpTo}
use Rattle.kt_ninja.proofs.block.Block.put_escaped.Given as goal

abbrev pub invariant-loop-at : goal.invariant-loop-at
invariant-loop-at g l =
    PutsUpTo g.W.Sink.seen l.fn.self l.self (escaped (is_escaped l.escapes) l.text) (escaped (is_escaped l.escapes) l.rest)

abbrev pub decreases-loop-at : goal.decreases-loop-at
decreases-loop-at g l = length l.rest
