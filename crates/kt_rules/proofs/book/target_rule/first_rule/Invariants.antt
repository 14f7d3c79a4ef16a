use Rattle.std.proofs.Common.{◌≡◌, drop}
use Rattle.kt_rules.specs.inner.Slots.{found, first_of}
use Rattle.kt_rules.proofs.book.target_rule.first_rule.Given as goal

abbrev pub invariant-loop-spot : goal.invariant-loop-spot
invariant-loop-spot l = first_of (found l.rules.1 (drop l.spot-index l.spots)) ≡ first_of (found l.rules.1 l.spots)
