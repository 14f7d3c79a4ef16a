use Rattle.std.proofs.Common.{◌≡◌, drop, map}
use Rattle.kt_recipe.proofs.Common.{list_text, put_words}
use Rattle.kt_text.specs.Functions.{name_part}
use Rattle.kt_recipe.proofs.forms.files.Given as goal

abbrev pub invariant-loop-name : goal.invariant-loop-name
invariant-loop-name l = put_words l.text.items (map name_part (map (λ name. name.now) (drop l.name-index l.names))) ≡ list_text (map name_part (map (λ name. name.now) l.names))
