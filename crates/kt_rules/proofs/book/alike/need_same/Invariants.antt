use Rattle.std.proofs.Common.{length}
use Rattle.kt_rules.specs.inner.Alike.{NeedSame}
use Rattle.kt_rules.proofs.book.alike.need_same.Given as goal

-- what is left needs the same only if all does
abbrev pub invariant-loop-spot : goal.invariant-loop-spot
invariant-loop-spot l = NeedSame l.rules.1 l.left l.others_left → NeedSame l.rules.1 l.spots l.others

abbrev pub decreases-loop-spot : goal.decreases-loop-spot
decreases-loop-spot l = length l.left
