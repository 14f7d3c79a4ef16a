use Rattle.std.proofs.Common.{map, ap, ◌∙◌}
use Rattle.kt_list.specs.declared.key.Key.{Key}
use Rattle.kt_recipe.proofs.SetLemmas.{name_inserted}
use Rattle.kt_recipe.proofs.automatic.each.Goals as goal

pub loop-name-preserved : goal.loop-name-preserved
loop-name-preserved c =
    let added = ap (map (λ (key : Key). key.0.now)) c.in_ok-insert.ensures.keys ∙ name_inserted c.loop-name.set.keys _ in
    rw added (rw c.in-Some.ensures.steps at c.loop-name.invariant)
