use Rattle.kt_text.proofs.Common.{length, List, sym, subst, Line, AreInOrder}
use Rattle.kt_text.proofs.lemmas.OrderLemmas.{lines_in_order}
use Rattle.kt_text.proofs.logical.line_marks.Goals as goal

pub returns-clause-order : goal.returns-clause-order
returns-clause-order c =
    subst (λ (lines : List Line). AreInOrder (length c.args.text.now) lines) (sym c.in_ok-cut_lines.ensures) (lines_in_order c.args.text.now)
