use Rattle.std.proofs.Common.{◌≡◌, ◌∷◌, drop, map}
use Rattle.std.specs.List.{join_with_byte}
use Rattle.kt_recipe.proofs.forms.whole.Given as goal

abbrev pub invariant-loop-name : goal.invariant-loop-name
invariant-loop-name l = join_with_byte 32 (l.text.items ∷ map (λ name. name.now) (drop l.name-index l.others)) ≡ join_with_byte 32 (map (λ name. name.now) l.names)
