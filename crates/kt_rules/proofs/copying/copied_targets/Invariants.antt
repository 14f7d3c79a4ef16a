use Rattle.std.proofs.Common.{◌≡◌, ◌++◌}
use Rattle.kt_rules.specs.views.Targets.{targets_view}
use Rattle.kt_rules.proofs.copying.copied_targets.Given as goal

abbrev pub invariant-loop-target : goal.invariant-loop-target
invariant-loop-target l = l.copies.items ++ targets_view l.target-iterator ≡ targets_view l.fn.targets
