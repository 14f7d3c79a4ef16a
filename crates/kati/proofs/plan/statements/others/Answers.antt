use Rattle.std.proofs.Common.{arith}
use Rattle.std.proofs.lemmas.List.Elements.{filter-append}
use Rattle.kt_list.proofs.NameLemmas.{take_named}
use Rattle.kati.proofs.plan.statements.others.Goals as goal

pub loop-number-preserved : goal.loop-number-preserved
loop-number-preserved c = grind (arith, take_named, filter-append)
