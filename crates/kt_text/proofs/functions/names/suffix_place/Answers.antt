use Rattle.std.proofs.Common.{arith}
use Rattle.kt_text.proofs.lemmas.NameLemmas.{dot_found, no_dot_found}
use Rattle.kt_text.proofs.functions.names.suffix_place.Goals as goal

pub returns-in-Some-clause-value : goal.returns-in-Some-clause-value
returns-in-Some-clause-value c = grind (arith, dot_found)

pub returns-in-None-clause-value : goal.returns-in-None-clause-value
returns-in-None-clause-value c = grind (arith, no_dot_found)
