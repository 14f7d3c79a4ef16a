use Rattle.std.proofs.Common.{◌≡◌, ◌++◌}
use Rattle.kt_syntax.specs.Comments.{backslashes}
use Rattle.kt_syntax.proofs.comment.put_backslashes.Given as goal

abbrev pub invariant-loop-place : goal.invariant-loop-place
invariant-loop-place l = l.text.items ≡ l.fn.text.items ++ backslashes l._place
