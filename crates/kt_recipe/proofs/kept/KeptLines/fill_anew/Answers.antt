use Rattle.kt_recipe.proofs.Common.{subst, rules, Text}
use Rattle.kt_recipe.specs.inner.Prepared.{IsFilled, IsRightLine}
use Rattle.kt_recipe.proofs.PreparedLemmas.{line_fills}
use Rattle.kt_recipe.proofs.kept.KeptLines.fill_anew.Goals as goal

pub returns-clause-quick_filled : goal.returns-clause-quick_filled
returns-clause-quick_filled c = λ yes.
    let made = c.in_ok-made.made in
    let right : IsRightLine c.args.self.now.table c.args.self.now.limit made = search rules in
    subst (λ (line : Text). IsFilled c.args.self.now line c.args.node.now c.args.part c.fill.new.out.items) c.in_ok-made.ensures.1
    (line_fills c.args.self.now made.text.items c.args.node.now c.args.part c.fill.new.out.items made.pieces c.in_ok-known.known yes c.in_ok-known.ensures right)
