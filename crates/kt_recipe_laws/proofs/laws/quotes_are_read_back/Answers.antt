use Rattle.kt_recipe_laws.proofs.QuotingLemmas.{read_back}
use Rattle.kt_recipe_laws.proofs.laws.quotes_are_read_back.Goals as goal

pub returns : goal.returns
returns c text = read_back text
