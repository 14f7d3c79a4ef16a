use Rattle.std.proofs.Common.{◌≡◌, ◌++◌}
use Rattle.kt_rules.specs.views.Targets.{names_view}
use Rattle.kt_rules.proofs.copying.copies.Given as goal

abbrev pub invariant-loop-name : goal.invariant-loop-name
invariant-loop-name l = l.list.items ++ names_view l.name-iterator ≡ names_view l.fn.names
