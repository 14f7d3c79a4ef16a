use Rattle.std.proofs.Common.{◌≡◌, ◌++◌, drop, filter, map, not}
use Rattle.kt_rules.specs.Names.{is_among}
use Rattle.kt_recipe.proofs.automatic.without.Given as goal

abbrev pub invariant-loop-name : goal.invariant-loop-name
invariant-loop-name l =
    map (λ name. name.now) l.left.items ++ filter (λ name. not (is_among (map (λ other. other.0.now) l.others.keys) name)) (map (λ name. name.0.now) (drop l.name-index l.names))
    ≡ filter (λ name. not (is_among (map (λ other. other.0.now) l.others.keys) name)) (map (λ name. name.0.now) l.names)
