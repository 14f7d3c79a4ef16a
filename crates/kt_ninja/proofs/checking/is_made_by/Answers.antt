use Rattle.std.proofs.Common.{◌≡◌, ◌∙◌, ap, sym, rules, false, Option}
use Rattle.kt_ninja.proofs.Common.{is_among, Statement, at_place}
use Rattle.kt_ninja.specs.views.View.{statement_names}
use Rattle.kt_ninja.proofs.Places.{passes_later}
use Rattle.kt_ninja.proofs.checking.is_made_by.Goals as goal

pub loop-statement-preserved : goal.loop-statement-preserved
loop-statement-preserved g c =
    let ss = (g.V.PlanView.plan c.args.view.now).statements in
    let name = c.args.name.now in
    let there = at_place ss c.loop-statement.statement (search rules) in
    let made : c.is_made_at.result ≡ is_among there.0.outs name
    = c.is_made_at.ensures ∙ ap (λ (o : Option Statement). is_among (statement_names (λ s. s.outs) o) name) there.1 in
    let no : c.is_made_at.result ≡ false = search rules in
    record {
      within = search rules;
      asks = passes_later (λ s. is_among s.outs name) c.args.count ss c.loop-statement.statement there.0
          (search rules) there.1 (sym made ∙ no) c.loop-statement.invariant.asks;
    }
