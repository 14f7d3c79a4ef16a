use Rattle.std.proofs.Common.{◌≡◌, fold, take}
use Rattle.kt_graph.specs.inner.EndMarks.{with_end}
use Rattle.kt_graph.proofs.known.end_marks.EndMarks.mark_all.Given as goal

abbrev pub invariant-loop-number : goal.invariant-loop-number
invariant-loop-number l = l.self.marks.items ≡ fold with_end l.fn.self.marks.items (take l.number l.names)
