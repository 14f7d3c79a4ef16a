use Rattle.kati.proofs.Common.{[], rules, traced, known_names, IsSoundGraph}
use Rattle.std.proofs.lemmas.Result.{err_from_is_err_and}
use Rattle.kati.specs.inner.plan.Shown.{plan_view}
use Rattle.kati.specs.inner.Views.{goals_view}
use Rattle.kati.proofs.lemmas.MeaningLemmas.{first_asks, seen_means, trouble_means}
use Rattle.kati.proofs.lemmas.meaning.SoundLemmas.{sound_if_ok}
use Rattle.kati.proofs.translating.planned_goals.Goals as goal

pub returns-in_err-graph-clause-means : goal.returns-in_err-graph-clause-means
returns-in_err-graph-clause-means c = λ asked.
    let p = err_from_is_err_and c.from_residual.result c.from_residual.ensures.1 in
    rw (p.1, p.2)
    (trouble_means plan_view c.args.args.now.limit (goals_view c.args.found.now c.args.goals.items) (traced c.args.messages.now.items asked)
    c.in_err-graph.field-0.0 (rw c.as_slice.ensures.value at c.in_err-graph.ensures.first))

pub returns-in_err-graph-clause-asks_nothing : goal.returns-in_err-graph-clause-asks_nothing
returns-in_err-graph-clause-asks_nothing c =
    let p = err_from_is_err_and c.from_residual.result c.from_residual.ensures.1 in
    rw (p.1, p.2) (first_asks _ _ _ c.in_err-graph.field-0.0 c.in_err-graph.ensures.first)

pub returns-clause-means : goal.returns-clause-means
returns-clause-means c = λ asked.
    let made = c.in_ok-planner.ensures in
    let gives = rw (made.book, made.table, made.limit) at c.plan.ensures.gives in
    seen_means plan_view c.args.args.now.limit (goals_view c.args.found.now c.args.goals.items) (traced c.args.messages.now.items asked) _
    c.plan.new.messages.items c.plan.result (search rules) gives

pub plan-requires : goal.plan-requires
plan-requires c = (known_names c.args.found.now.makefile.book c.args.found.now.list.items, search rules)

pub returns-clause-writable : goal.returns-clause-writable
returns-clause-writable c = c.plan.ensures.writable

pub returns-clause-sound : goal.returns-clause-sound
returns-clause-sound c =
    let made = c.in_ok-planner.ensures in
    let gives = rw (made.book, made.table, made.limit) at c.plan.ensures.gives in
    let want = goals_view c.args.found.now c.args.goals.items in
    let sound : IsSoundGraph want.read.book want.known want.goals c.in_ok-graph.graph.now = search rules in
    sound_if_ok plan_view c.args.args.now.limit want (traced c.args.messages.now.items []) (traced c.plan.new.messages.items []) c.plan.result
    (seen_means plan_view c.args.args.now.limit want (traced c.args.messages.now.items []) _ c.plan.new.messages.items c.plan.result sound gives)
    c.plan.ensures.writable
