use Rattle.kt_rules_laws.proofs.NumberLemmas.{numbers_tell}
use Rattle.kt_rules_laws.proofs.laws.numbers_of_explicit_rules.Goals as goal

pub returns : goal.returns
returns c = numbers_tell
