use Rattle.kt_ninja.proofs.Deciding.{texts_exactly}
use Rattle.kt_ninja.proofs.checking.texts_can_be_written.Goals as goal

pub returns-clause-writable : goal.returns-clause-writable
returns-clause-writable g c = texts_exactly (g.V.PlanView.plan c.args.view.now) c.first_bad_text.result c.first_bad_text.ensures
