use Rattle.kt_recipe.proofs.PlainLemmas.{listing}
use Rattle.kt_recipe_laws.proofs.laws.rows_of_macros.Goals as goal

pub returns : goal.returns
unfolding listing
returns c = assumption
