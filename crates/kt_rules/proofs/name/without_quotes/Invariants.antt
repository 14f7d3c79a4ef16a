use Rattle.std.proofs.Common.{◌≡◌, ◌++◌, length}
use Rattle.kt_rules.specs.Names.{unquoted}
use Rattle.kt_rules.proofs.name.without_quotes.Given as goal

abbrev pub invariant-loop-left : goal.invariant-loop-left
invariant-loop-left l = l.text.items ++ unquoted l.left ≡ unquoted l.word

abbrev pub decreases-loop-left : goal.decreases-loop-left
decreases-loop-left l = length l.left
