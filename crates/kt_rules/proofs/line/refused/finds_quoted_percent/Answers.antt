use Rattle.std.proofs.Common.{◌∙◌, [], ◌∷◌}
use Rattle.kt_text.proofs.lemmas.PlaceLemmas.{occurs_found}
use Rattle.kt_rules.proofs.line.refused.finds_quoted_percent.Goals as goal

pub returns : goal.returns
returns c = c.is_some.ensures ∙ occurs_found c.args.name.now (92 ∷ 37 ∷ []) c.find.result c.find.ensures
