use Rattle.std.proofs.Common.{◌≡◌, drop, map}
use Rattle.kt_recipe.proofs.Common.{list_text, put_words, directory_of}
use Rattle.kt_recipe.proofs.forms.directories.Given as goal

abbrev pub invariant-loop-name : goal.invariant-loop-name
invariant-loop-name l = put_words l.text.items (map directory_of (map (λ name. name.now) (drop l.name-index l.names))) ≡ list_text (map directory_of (map (λ name. name.now) l.names))
