use Rattle.std.proofs.Common.{◌∙◌}
use Rattle.kt_recipe.proofs.SetLemmas.{among_keys}
use Rattle.kt_recipe.proofs.automatic.is_among.Goals as goal

pub returns : goal.returns
returns c = c.contains.ensures ∙ among_keys c.args.others.now.keys c.args.name.now
