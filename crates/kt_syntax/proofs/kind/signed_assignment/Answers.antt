use Rattle.kt_syntax.proofs.Common.{mask_of, take}
use Rattle.kt_syntax.proofs.lemmas.Kinding.{parts_found}
use Rattle.kt_syntax.proofs.kind.signed_assignment.Goals as goal

pub returns-clause-value : goal.returns-clause-value
returns-clause-value c =
    parts_found c.args.text.now (take c.args.end (mask_of c.args.text.now)) c.args.begin c.in_ok-name.name c.past_blanks-place.result
    (c.in_ok-operator.operator, c.in_ok-operator.size) c.past_line_blanks.result c.in_ok-name.ensures.value c.past_blanks-place.ensures.value c.in_ok-operator.ensures.value
    c.past_line_blanks.ensures.value
