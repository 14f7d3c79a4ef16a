use Rattle.std.proofs.Common.{◌≡◌, ◌≤◌, ◌-◌, drop}
use Rattle.kt_syntax.proofs.mask.Mask.symbol_after.Given as goal

abbrev pub invariant-loop-place : goal.invariant-loop-place
invariant-loop-place l = (l.self ≡ drop l.place l.fn.self) × (l.place ≤ l.count)

abbrev pub decreases-loop-place : goal.decreases-loop-place
decreases-loop-place l = l.count - l.place
