use Rattle.std.proofs.Common.{◌≡◌, ◌++◌, drop}
use Rattle.kt_rules.specs.inner.Patterns.{held}
use Rattle.kt_rules.proofs.book.pattern_set.copied.Given as goal

abbrev pub invariant-loop-name : goal.invariant-loop-name
invariant-loop-name l = held l.copies.items ++ drop l.name-index l.names ≡ l.names
