use Rattle.std.proofs.Common.{sym, ◌∙◌}
use Rattle.kt_recipe.proofs.Common.{IfOk-weaker}
use Rattle.kt_recipe.proofs.OnlyPartLemmas.{order_only_of_only_part}
use Rattle.kt_recipe.proofs.automatic.order_only.Goals as goal

pub returns-then-is_only_part : goal.returns-then-is_only_part
returns-then-is_only_part c =
    let known = order_only_of_only_part c.args.node.now c.args.part (sym c.is_only_part.ensures ∙ c.if-is_only_part.true) in
    IfOk-weaker c.collected.result _ _ (λ names told. told ∙ c.order_only.ensures ∙ known) c.collected.ensures
