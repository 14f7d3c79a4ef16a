use Rattle.std.proofs.Common.{◌≡◌, ◌++◌, drop, map}
use Rattle.kt_rules.specs.inner.Patterns.{held}
use Rattle.kt_rules.proofs.book.pattern_set.target_names.Given as goal

abbrev pub invariant-loop-target : goal.invariant-loop-target
invariant-loop-target l = held l.names.items ++ map (λ target. target.name) (drop l.target-index l.targets) ≡ map (λ target. target.name) l.targets
