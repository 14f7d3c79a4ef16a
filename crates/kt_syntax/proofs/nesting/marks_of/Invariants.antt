use Rattle.std.proofs.Common.{◌≡◌, ◌++◌, drop}
use Rattle.kt_syntax.proofs.nesting.marks_of.Given as goal

abbrev pub invariant-loop-line : goal.invariant-loop-line
invariant-loop-line l = l.marks.items ++ drop l.line-index l.lines ≡ l.lines
