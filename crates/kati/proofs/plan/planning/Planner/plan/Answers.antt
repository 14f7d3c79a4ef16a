use Rattle.kati.proofs.Common.{rules, subst, sym, HasWritableTexts}
use Rattle.kati.specs.inner.plan.Drawn.{statements_drawn}
use Rattle.kati.specs.inner.plan.Shown.{plan_view}
use Rattle.kati.proofs.lemmas.plan.PlanLemmas.{plan_writable}
use Rattle.kati.proofs.lemmas.plan.TextLemmas.{plan_texts}
use Rattle.kati.proofs.plan.planning.Planner.plan.Goals as goal

pub written-requires : goal.written-requires
written-requires c = λ yes.
    let both = c.has_writable_texts-can_be_written.ensures.quick yes in
    subst HasWritableTexts (sym c.plan_of.ensures)
    (plan_texts c.args.self.now.book.now c.args.self.now.commands.table c.args.self.now.commands.limit c.requires.0 c.args.goals.items c.args.graph.now c.args.messages.now.items c.drawn.new.messages.items
    c.in_ok-groups.groups c.in_ok-groups.sketch c.requires.1.1 (search rules) both.0 both.1)

pub returns-clause-writable : goal.returns-clause-writable
returns-clause-writable c =
    plan_writable plan_view c.args.self.now.book.now c.args.self.now.commands.table c.args.self.now.commands.limit c.requires.0 c.args.goals.items c.args.graph.now c.args.messages.now.items c.drawn.new.messages.items
    (statements_drawn c.in_ok-groups.groups c.in_ok-groups.sketch) c.requires.1 (search rules)
    (plan_view c.plan_of.result) c.plan_of.ensures c.written.result c.written.ensures.same c.written.ensures.texts
