use Rattle.std.proofs.Common.{◌≡◌, ◌++◌, drop}
use Rattle.kt_eval.specs.macros.Macros.{with_dollars_doubled}
use Rattle.kt_eval.proofs.macros.assigning.doubled.Given as goal

abbrev pub invariant-loop-byte : goal.invariant-loop-byte
invariant-loop-byte l = l.whole.items ++ with_dollars_doubled (drop l.byte-index l.text) ≡ with_dollars_doubled l.text
