use Rattle.kati.specs.inner.plan.Shown.{plan_view}
use Rattle.kati.proofs.lemmas.MeaningLemmas.{then_means}
use Rattle.kati.proofs.translating.planned.Goals as goal

pub returns-clause-means : goal.returns-clause-means
returns-clause-means g c = λ store agrees.
    (then_means plan_view c.args.args.now store (g.F.Files.seen c.args.files.now).names _ _ _ c.planned_goals.result (c.in_ok-found.ensures.gives store agrees)
    (c.planned_goals.ensures.means (g.F.Files.seen c.prepared.new.files).names))
