use Rattle.kt_graph.proofs.Common.{arith, subst, sym, Grew}
use Rattle.kt_graph.proofs.lemmas.nodes.StoredLemmas.{grew_after, grew_part, grew_rows}
use Rattle.kt_graph.proofs.nodes.stored.put_part.Goals as goal

pub returns-in_err-push-clause-grew : goal.returns-in_err-push-clause-grew
returns-in_err-push-clause-grew c =
    subst (λ held. Grew c.args.held.now.items c.args.rows.now held c.put_needs.new.rows) (sym c.in_err-push.ensures.items)
    (grew_rows c.args.held.now.items c.args.rows.now c.put_needs.new.rows c.in_ok-needs.ensures.grew)

pub returns-clause-grew : goal.returns-clause-grew
returns-clause-grew c =
    let held = c.args.held.now.items in
    let rows = c.args.rows.now in
    let new = c.put_needs.new.rows in
    grew_after held held c.push.new.self.items rows new new (grew_rows held rows new c.in_ok-needs.ensures.grew)
    (grew_part held c.push.new.self.items new _ c.in_ok-push.ensures.items (omega (arith, c.of.ensures.needs, c.in_ok-needs.ensures.are.within)))
