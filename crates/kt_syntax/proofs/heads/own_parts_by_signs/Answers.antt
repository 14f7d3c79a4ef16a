use Rattle.std.proofs.Common.{◌∙◌}
use Rattle.kt_syntax.proofs.lemmas.HeadLemmas.{texts_told}
use Rattle.kt_syntax.proofs.heads.own_parts_by_signs.Goals as goal

pub returns : goal.returns
returns c = c.parts_at.ensures ∙ texts_told c.args.text.now c.args.text.now _ c.recipe_at-recipe.ensures
