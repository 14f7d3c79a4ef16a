use Rattle.kt_graph.specs.inner.EndMarks.{AreMarkedTo, KeepsEnds}
use Rattle.kt_graph.proofs.known.end_marks.EndMarks.mark_chosen.Given as goal

abbrev pub invariant-loop-number : goal.invariant-loop-number
invariant-loop-number l = record {
  kept : KeepsEnds l.fn.self.marks.items l.self.marks.items;
  marked : AreMarkedTo l.number l.self.marks.items l.names l.chosen;
}
