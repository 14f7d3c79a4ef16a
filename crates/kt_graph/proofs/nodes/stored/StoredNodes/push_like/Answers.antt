use Rattle.std.proofs.Common.{arith}
use Rattle.kt_graph.proofs.lemmas.nodes.StoredLemmas.{stored_push}
use Rattle.kt_graph.proofs.nodes.stored.StoredNodes.push_like.Goals as goal

pub put_like-requires-clause-one : goal.put_like-requires-clause-one
put_like-requires-clause-one c = grind arith

pub invariant_of-self-2 : goal.invariant_of-self-2
invariant_of-self-2 c =
    stored_push c.self.inside.parts.items c.put_like.new.parts.items c.self.inside.rows c.self.inside.rows
    c.self.inside.heads.items _ c.in_ok-head.head c.in_ok-push.ensures.items c.in_ok-head.ensures.grew c.self.invariant
    c.in_ok-head.ensures.head.within
