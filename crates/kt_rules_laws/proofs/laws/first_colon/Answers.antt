use Rattle.kt_rules_laws.proofs.CutLemmas.{cuts_at_first}
use Rattle.kt_rules_laws.proofs.laws.first_colon.Goals as goal

pub returns : goal.returns
returns c = cuts_at_first
