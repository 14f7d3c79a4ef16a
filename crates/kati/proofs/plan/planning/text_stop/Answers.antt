use Rattle.kt_ninja.specs.views.Writable.{told_obstacle}
use Rattle.kati.specs.inner.plan.Shown.{plan_view}
use Rattle.kati.proofs.lemmas.plan.PlanLemmas.{text_settled}
use Rattle.kati.proofs.plan.planning.text_stop.Goals as goal

pub returns-in-Err : goal.returns-in-Err
returns-in-Err c =
    text_settled (plan_view c.args.plan.now) (told_obstacle c.in-Err.trouble) c.stop_of.result c.in-Err.ensures.obstacle c.stop_of.ensures
