use Rattle.kt_eval_laws.proofs.BarePlaceLemmas.{bare_place_law}
use Rattle.kt_eval_laws.proofs.laws.law_of_bare_places.Goals as goal

pub returns : goal.returns
returns c = bare_place_law
