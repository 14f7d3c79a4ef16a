use Rattle.std.proofs.Common.{ap, ◌∙◌}
use Rattle.kt_syntax.proofs.Common.{nil_from_length, terms_of}
use Rattle.kt_syntax.proofs.lemmas.Splitting.{text_ends}
use Rattle.kt_syntax.proofs.next_term.next_term.Goals as goal

pub returns-in_err-first : goal.returns-in_err-first
returns-in_err-first c = rw c.from_residual.ensures (ap terms_of (nil_from_length c.args.text.now c.in_err-first.ensures.cases) ∙ text_ends)
