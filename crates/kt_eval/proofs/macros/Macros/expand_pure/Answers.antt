use Rattle.kt_eval.proofs.Common.{rules, [], AgreeWith}
use Rattle.kt_eval.proofs.lemmas.AgreementLemmas.{absent_agree}
use Rattle.kt_eval.proofs.lemmas.expanding.PureLemmas.{says_when}
use Rattle.kt_eval.proofs.macros.Macros.expand_pure.Goals as goal

pub returns : goal.returns
returns g c =
    let agrees : AgreeWith [] c.expand_here-result.new.self.answers = rw (← c.evaluation.view_is) (absent_agree _) in
    says_when c.args.limit c.args.text.now c.args.self.now (g.A.Automatic.values c.args.automatic.now) c.args.place c.replace-before.result.items
    c.new-3.result.items c.expand_here-result.result c.expand_here-result.new.self.world c.expand_here-result.new.self.failed _ _ c.new-3.ensures.items
    (search rules) (search rules) (search rules) c.expand_here-result.ensures.blames
    (rw c.new-2.ensures.items at c.expand_here-result.ensures.kept.3)
    (rw c.new-2.ensures.items at (c.expand_here-result.ensures.gives [] agrees))
    (rw c.new-2.ensures.items at (c.expand_here-result.ensures.cut [] agrees))
