use Rattle.std.proofs.Common.{◌≡◌, ◌∙◌, ◌++◌, ◌∷◌, [], List, take, sym, ap, rules, slice_get}
use Rattle.kt_ninja.proofs.Common.{Statement, at_place}
use Rattle.kt_ninja.proofs.Places.{take_at}
use Rattle.kt_ninja.proofs.ViewLemmas.{shown_there}
use Rattle.kt_ninja.proofs.copying.copied_statements.Goals as goal

pub loop-place-preserved : goal.loop-place-preserved
loop-place-preserved g c =
    let ss = (g.V.PlanView.plan c.args.view.now).statements in
    let i = c.loop-place.place in
    let there = at_place ss i (search rules) in
    let copied : c.in_ok-copied_statement.field-0 ≡ there.0
    = c.in_ok-copied_statement.ensures ∙ shown_there (slice_get ss i) there.0 there.1 in
    record {
      within = search rules;
      copied = c.in_ok-push.ensures.items ∙ ap (λ (l : List Statement). l ++ c.in_ok-copied_statement.field-0 ∷ []) c.loop-place.invariant.copied
          ∙ ap (λ (s : Statement). take i ss ++ s ∷ []) copied ∙ sym (take_at ss i there.0 there.1);
    }
