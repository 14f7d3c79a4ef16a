use Rattle.kt_recipe.proofs.DeeperLemmas.{command_stays}
use Rattle.kt_recipe.proofs.laws.one_deeper.Goals as goal

pub returns : goal.returns
returns c = command_stays
