use Rattle.kt_ninja.proofs.Common.{rules, at_place}
use Rattle.kt_ninja.proofs.Troubles.{obstacles_later}
use Rattle.kt_ninja.proofs.checking.first_bad_text.Goals as goal

pub loop-statement-preserved : goal.loop-statement-preserved
loop-statement-preserved g c =
    let ss = (g.V.PlanView.plan c.args.view.now).statements in
    let there = at_place ss c.loop-statement.statement (search rules) in
    record {
      within = search rules;
      obstacles = obstacles_later ss c.loop-statement.statement there.0 there.1 _ (search rules) c.loop-statement.invariant.obstacles;
    }
