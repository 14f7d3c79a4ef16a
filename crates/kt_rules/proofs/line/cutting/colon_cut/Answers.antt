use Rattle.std.proofs.Common.{sym}
use Rattle.kt_rules.proofs.lemmas.line.BackslashLemmas.{no_colon}
use Rattle.kt_rules.proofs.line.cutting.colon_cut.Goals as goal

pub returns-in-None : goal.returns-in-None
returns-in-None c = sym (no_colon c.args.text.now c.in-None.ensures)
