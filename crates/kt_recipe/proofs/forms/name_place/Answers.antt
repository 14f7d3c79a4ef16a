use Rattle.kt_text.proofs.lemmas.NameLemmas.{slash_found}
use Rattle.kt_recipe.proofs.forms.name_place.Goals as goal

pub returns-in-Some-clause-value : goal.returns-in-Some-clause-value
returns-in-Some-clause-value c = slash_found c.args.name.now c.in-Some.place c.in-Some.ensures
