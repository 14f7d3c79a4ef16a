use Rattle.kt_recipe_laws.proofs.CommandLemmas.{command_law}
use Rattle.kt_recipe_laws.proofs.laws.commands_are_calls.Goals as goal

pub returns : goal.returns
returns c = command_law
