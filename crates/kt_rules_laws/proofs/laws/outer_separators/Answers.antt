use Rattle.kt_rules_laws.proofs.OuterLemmas.{outer_law}
use Rattle.kt_rules_laws.proofs.laws.outer_separators.Goals as goal

pub returns : goal.returns
returns c = outer_law
