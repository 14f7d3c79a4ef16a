use Rattle.kt_ninja.proofs.Deciding.{writable_exactly}
use Rattle.kt_ninja.proofs.checking.writable_view.Goals as goal

pub returns-clause-writable : goal.returns-clause-writable
returns-clause-writable g c = writable_exactly (g.V.PlanView.plan c.args.view.now) c.first_obstacle_in.result c.first_obstacle_in.ensures
