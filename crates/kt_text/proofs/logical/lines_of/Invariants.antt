use Rattle.std.proofs.Common.{◌≡◌, ◌++◌, drop}
use Rattle.kt_text.proofs.logical.lines_of.Given as goal

abbrev pub invariant-loop-mark : goal.invariant-loop-mark
invariant-loop-mark l = l.lines.items ++ drop l.mark-index l.marks ≡ l.marks
