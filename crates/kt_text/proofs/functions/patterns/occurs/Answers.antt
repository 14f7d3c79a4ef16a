use Rattle.std.proofs.Common.{◌∙◌}
use Rattle.kt_text.proofs.lemmas.PlaceLemmas.{occurs_found}
use Rattle.kt_text.proofs.functions.patterns.occurs.Goals as goal

pub returns : goal.returns
returns c = c.is_some.ensures ∙ occurs_found c.args.text.now c.args.needle.now c.find.result c.find.ensures
