use Rattle.std.proofs.Common.{arith}
use Rattle.kt_list.proofs.general.Places.{is_some-map}
use Rattle.kt_syntax.proofs.lemmas.HeadLemmas.{specific_found}
use Rattle.kt_syntax.proofs.heads.assigns_after_colon.Goals as goal

pub returns-in-Some : goal.returns-in-Some
returns-in-Some c = grind (arith, is_some-map, specific_found)
