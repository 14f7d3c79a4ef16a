use Rattle.std.proofs.Common.{◌∙◌, sym, take}
use Rattle.kt_ninja.proofs.Troubles.{is_among-outputs}
use Rattle.kt_ninja.proofs.checking.is_output.Goals as goal

pub returns : goal.returns
returns g c = c.is_made_by.ensures ∙ sym (is_among-outputs (take c.args.count (g.V.PlanView.plan c.args.view.now).statements) c.args.name.now)
