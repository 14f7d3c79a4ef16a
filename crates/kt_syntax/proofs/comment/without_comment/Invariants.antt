use Rattle.std.proofs.Common.{◌≡◌, ◌≤◌, ◌+◌, ◌++◌, length, drop}
use Rattle.kt_syntax.specs.Comments.{uncommented, uncommented_of}
use Rattle.kt_syntax.proofs.comment.without_comment.Given as goal

abbrev pub invariant-loop-symbol : goal.invariant-loop-symbol
invariant-loop-symbol l = record {
  small : l.run ≤ l.place;
  size : l.place + length l.symbol-iterator ≡ length l.text;
  value : l.plain.items ++ uncommented l.run l.symbol-iterator (drop l.place l.text) ≡ uncommented_of l.text;
}
