use Rattle.std.proofs.Common.{◌≡◌, length}
use Rattle.kt_rules.specs.inner.Slots.{explicit_left}
use Rattle.kt_rules.proofs.book.explicit.first_explicit.Given as goal

abbrev pub invariant-loop-left : goal.invariant-loop-left
invariant-loop-left l = explicit_left l.skips_bare l.rules.1 l.left ≡ explicit_left l.skips_bare l.rules.1 l.spots

abbrev pub decreases-loop-left : goal.decreases-loop-left
decreases-loop-left l = length l.left
