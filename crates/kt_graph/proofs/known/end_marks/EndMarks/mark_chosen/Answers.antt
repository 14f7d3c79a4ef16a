use Rattle.std.proofs.Common.{arith}
use Rattle.kt_graph.proofs.lemmas.EndMarkLemmas.{chosen_kept, chosen_marked}
use Rattle.kt_graph.proofs.known.end_marks.EndMarks.mark_chosen.Goals as goal

pub loop-number-preserved : goal.loop-number-preserved
loop-number-preserved c = grind (arith, chosen_kept, chosen_marked)
