use Rattle.kt_rules_laws.proofs.CutLemmas.{drops_dots}
use Rattle.kt_rules_laws.proofs.laws.leading_dots.Goals as goal

pub returns : goal.returns
returns c = drops_dots
