use Rattle.std.proofs.Common.{◌≡◌, filter, not, take}
use Rattle.kt_rules.specs.Names.{is_among}
use Rattle.kati.proofs.plan.statements.others.Given as goal

abbrev pub invariant-loop-number : goal.invariant-loop-number
invariant-loop-number l = l.list.items ≡ filter (λ name. not (is_among l.inputs name)) (take l.number l.names)
