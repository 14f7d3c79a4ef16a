use Rattle.kt_recipe.proofs.Common.{subst, IfOk-weaker, Text}
use Rattle.kt_recipe.specs.inner.Prepared.{IsFilled}
use Rattle.kt_recipe.proofs.PreparedLemmas.{line_fills}
use Rattle.kt_recipe.proofs.kept.KeptLines.fill.Goals as goal

pub returns-in-Some-clause-quick_filled : goal.returns-in-Some-clause-quick_filled
returns-in-Some-clause-quick_filled c =
    let kept = c.in-Some.kept.now in
    IfOk-weaker c.fill.result _ _
    (λ known is yes. subst (λ (line : Text). IsFilled c.args.self.now line c.args.node.now c.args.part c.fill.new.out.items) c.in-Some.ensures.quick.1
    (line_fills c.args.self.now kept.text.items c.args.node.now c.args.part c.fill.new.out.items kept.pieces known yes is c.in-Some.ensures.quick.0))
    c.fill.ensures
