use Rattle.kt_graph.proofs.lemmas.nodes.StoredLemmas.{stored_push}
use Rattle.kt_graph.proofs.nodes.stored.StoredNodes.push_double.Goals as goal

pub invariant_of-self-2 : goal.invariant_of-self-2
invariant_of-self-2 c =
    stored_push c.self.inside.parts.items c.put_double.new.held.items c.self.inside.rows c.put_double.new.rows
    c.self.inside.heads.items _ c.in_ok-head.head c.in_ok-push.ensures.items c.in_ok-head.ensures.grew c.self.invariant
    c.in_ok-head.ensures.head.within
