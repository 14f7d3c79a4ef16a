use Rattle.std.proofs.Common.{◌∙◌, List, ap, sym, slice_get}
use Rattle.kt_text.specs.Words.{Text}
use Rattle.kati.specs.inner.plan.Shown.{plan_view}
use Rattle.kati.proofs.lemmas.plan.PlanLemmas.{least_here, least_none}
use Rattle.kati.proofs.plan.planning.least_output.Goals as goal

pub returns-in-Some : goal.returns-in-Some
returns-in-Some c =
    least_here (slice_get (plan_view c.args.plan.now).statements c.args.number) c.in-Some.name.now
    (sym (ap (λ (names : List Text). slice_get names 0) c.names.ensures) ∙ sym c.in-Some.ensures)

pub returns-in-None : goal.returns-in-None
returns-in-None c =
    least_none (slice_get (plan_view c.args.plan.now).statements c.args.number)
    (c.in-None.ensures ∙ ap (λ (names : List Text). slice_get names 0) c.names.ensures)
