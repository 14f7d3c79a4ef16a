use Rattle.std.proofs.Common.{length, get_or, true≢false, arith}
use Rattle.kt_syntax.proofs.Common.{eqb-true, eq-eqb}
use Rattle.kt_syntax.proofs.lemmas.Uncommenting.{at_symbol, uncommented-backslash, uncommented-literal, uncommented-comment, uncommented-other, uncommented-nil}
use Rattle.kt_syntax.proofs.comment.without_comment.Goals as goal
use Rattle.kt_syntax.proofs.comment.without_comment.Goals.{then-is, else-is+then-is-2+in_ok-put_backslashes+else-run-eq0+in_ok-push, else-is+else-is-2+in_ok-put_backslashes-2+in_ok-push-2}

pub loop-symbol-preserved : goal.loop-symbol-preserved
loop-symbol-preserved c = grind (arith, length, at_symbol, then-is, uncommented-backslash, eqb-true, else-is+then-is-2+in_ok-put_backslashes+else-run-eq0+in_ok-push, uncommented-literal, true≢false, eq-eqb, else-is+else-is-2+in_ok-put_backslashes-2+in_ok-push-2, get_or, uncommented-other)

pub returns-then-run-eq0 : goal.returns-then-run-eq0
returns-then-run-eq0 c = grind (arith, at_symbol, uncommented-comment, true≢false, eq-eqb, eqb-true)

pub returns : goal.returns
returns c = grind (arith, uncommented-nil)
