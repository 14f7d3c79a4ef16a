use Rattle.std.proofs.Common.{◌≡◌, ◌∙◌, ap, sym, rules, Option, true}
use Rattle.kt_ninja.proofs.Common.{Statement, is_empty, at_place}
use Rattle.kt_ninja.specs.views.View.{statement_names}
use Rattle.kt_ninja.proofs.Places.{place_here}
use Rattle.kt_ninja.proofs.checking.first_without_output.Goals as goal

pub returns-then-has_no_output : goal.returns-then-has_no_output
returns-then-has_no_output g c =
    let ss = (g.V.PlanView.plan c.args.view.now).statements in
    let there = at_place ss c.loop-statement.statement (search rules) in
    let none : c.has_no_output.result ≡ is_empty there.0.outs
    = c.has_no_output.ensures ∙ ap (λ (o : Option Statement). is_empty (statement_names (λ s. s.outs) o)) there.1 in
    let yes : c.has_no_output.result ≡ true = search rules in
    place_here (λ s. is_empty s.outs) ss c.loop-statement.statement there.0 there.1 (sym none ∙ yes) c.loop-statement.invariant.looks
