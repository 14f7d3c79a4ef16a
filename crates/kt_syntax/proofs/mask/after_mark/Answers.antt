use Rattle.std.proofs.Common.{arith, ◌∙◌, sym}
use Rattle.kt_syntax.proofs.lemmas.Masking.{past-newline, past-return, past-other}
use Rattle.kt_syntax.proofs.mask.after_mark.Goals as goal

pub returns-then-starts_with-clause-value : goal.returns-then-starts_with-clause-value
returns-then-starts_with-clause-value c = past-newline c.args.text.now (sym c.starts_with.ensures.value ∙ c.if-starts_with.true)

pub returns-then-starts_with-2-clause-value : goal.returns-then-starts_with-2-clause-value
returns-then-starts_with-2-clause-value c = past-return c.args.text.now (sym c.starts_with-else-starts_with.ensures.value ∙ c.if-starts_with-2.true)

pub returns-else-starts_with-2-clause-value : goal.returns-else-starts_with-2-clause-value
returns-else-starts_with-2-clause-value c = grind (arith, past-other)
