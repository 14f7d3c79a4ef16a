use Rattle.std.proofs.Common.{rules}
use Rattle.kt_text.proofs.lemmas.PhysicalLemmas.{empty_line}
use Rattle.kt_text.proofs.physical.line_size.Goals as goal

pub returns-in-10-clause-value : goal.returns-in-10-clause-value
returns-in-10-clause-value c = empty_line c.args.text.now c.in-10.len_at_least (search rules)
