use Rattle.kt_rules_laws.proofs.QuoteLemmas.{unquoted_law}
use Rattle.kt_rules_laws.proofs.laws.unquoting.Goals as goal

pub returns : goal.returns
returns c = unquoted_law
