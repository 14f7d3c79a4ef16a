use Rattle.std.proofs.Common.{◌∙◌, ◌≡◌, ◌+◌, ℕ, List, take, drop, sym, ap, rules, Option, Some, None}
use Rattle.kt_ninja.proofs.Common.{option_or, Statement, repeated_after, at_place}
use Rattle.kt_ninja.specs.Plan.{outputs}
use Rattle.kt_ninja.specs.views.View.{statement_names}
use Rattle.kt_ninja.proofs.Troubles.{repeated_after-next}
use Rattle.kt_ninja.proofs.checking.first_repeated.Goals as goal

pub returns-in-Some : goal.returns-in-Some
returns-in-Some g c =
    let all = (g.V.PlanView.plan c.args.view.now).statements in
    let i = c.loop-statement.statement in
    let there = at_place all i (search rules) in
    let rest = repeated_after (outputs (take (i + 1) all)) (outputs (drop (i + 1) all)) in
    let found : Some c.in-Some.out.now ≡ repeated_after (outputs (take i all)) there.0.outs
    = c.in-Some.ensures ∙ ap (λ (o : Option Statement). repeated_after (outputs (take i all)) (statement_names (λ s. s.outs) o)) there.1 in
    ap (λ (o : Option (List ℕ)). option_or o rest) found ∙ sym (repeated_after-next all i there.0 there.1) ∙ c.loop-statement.invariant.repeats

pub loop-statement-preserved : goal.loop-statement-preserved
loop-statement-preserved g c =
    let all = (g.V.PlanView.plan c.args.view.now).statements in
    let i = c.loop-statement.statement in
    let there = at_place all i (search rules) in
    let rest = repeated_after (outputs (take (i + 1) all)) (outputs (drop (i + 1) all)) in
    let found : None ≡ repeated_after (outputs (take i all)) there.0.outs
    = c.in_default.ensures ∙ ap (λ (o : Option Statement). repeated_after (outputs (take i all)) (statement_names (λ s. s.outs) o)) there.1 in
    record {
      within = search rules;
      repeats = ap (λ (o : Option (List ℕ)). option_or o rest) found ∙ sym (repeated_after-next all i there.0 there.1) ∙ c.loop-statement.invariant.repeats;
    }
