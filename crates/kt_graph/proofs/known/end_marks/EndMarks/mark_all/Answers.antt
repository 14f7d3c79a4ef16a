use Rattle.std.proofs.Common.{arith}
use Rattle.kt_list.proofs.NameLemmas.{take_named}
use Rattle.kt_graph.proofs.Common.{fold-append}
use Rattle.kt_graph.proofs.known.end_marks.EndMarks.mark_all.Goals as goal

pub loop-number-preserved : goal.loop-number-preserved
loop-number-preserved c = grind (arith, take_named, fold-append)
