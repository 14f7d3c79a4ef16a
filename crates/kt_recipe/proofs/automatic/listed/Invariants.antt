use Rattle.std.proofs.Common.{◌≡◌, ◌++◌, drop, map}
use Rattle.kt_recipe.proofs.automatic.listed.Given as goal

abbrev pub invariant-loop-key : goal.invariant-loop-key
invariant-loop-key l =
    map (λ name. name.now) l.names.items ++ map (λ key. key.0.now) (drop l.key-index l.keys) ≡ map (λ key. key.0.now) l.keys
