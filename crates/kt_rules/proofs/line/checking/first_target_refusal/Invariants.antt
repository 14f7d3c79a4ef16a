use Rattle.std.proofs.Common.{◌≡◌, drop, map}
use Rattle.kt_rules.specs.RuleLine.{first_refusal, target_refusal}
use Rattle.kt_rules.proofs.line.checking.first_target_refusal.Given as goal

abbrev pub invariant-loop-target : goal.invariant-loop-target
invariant-loop-target l =
    first_refusal (map (target_refusal l.pattern) (drop l.target-index l.targets)) ≡ first_refusal (map (target_refusal l.pattern) l.targets)
