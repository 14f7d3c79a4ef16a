use Rattle.kt_graph.proofs.Common.{List, ℕ, subst, Visits}
use Rattle.kt_graph.proofs.lemmas.faults.MarkLemmas.{visits_join}
use Rattle.kt_graph.proofs.faults.cycles.visit_next.Goals as goal

pub returns : goal.returns
returns c =
    subst (λ (vertices : List ℕ). Visits vertices c.args.unvisited.now.items c.visit-2.new.unvisited.items c.args.work.now.items c.visit-2.new.work.items) c.next.ensures
    (visits_join c.next.result.0.now c.next.result.1.now c.args.unvisited.now.items c.visit.new.unvisited.items c.visit-2.new.unvisited.items
    c.args.work.now.items c.visit.new.work.items c.visit-2.new.work.items c.in_ok-visit.ensures c.in_ok-visit-2.ensures)
