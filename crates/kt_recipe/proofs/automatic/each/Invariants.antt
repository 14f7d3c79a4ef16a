use Rattle.std.proofs.Common.{◌≡◌, [], map, fold}
use Rattle.kt_rules.specs.Names.{with_name}
use Rattle.kt_recipe.proofs.automatic.each.Given as goal

abbrev pub invariant-loop-name : goal.invariant-loop-name
invariant-loop-name l = fold with_name (map (λ key. key.0.now) l.set.keys) l.name-iterator ≡ fold with_name [] l.fn.names
