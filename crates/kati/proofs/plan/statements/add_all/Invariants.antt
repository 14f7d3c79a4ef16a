use Rattle.std.proofs.Common.{◌≡◌, fold}
use Rattle.kt_rules.specs.Names.{with_name}
use Rattle.kati.proofs.plan.statements.add_all.Given as goal

abbrev pub invariant-loop-name : goal.invariant-loop-name
invariant-loop-name l = fold with_name l.set l.name-iterator ≡ fold with_name l.fn.set l.fn.names
