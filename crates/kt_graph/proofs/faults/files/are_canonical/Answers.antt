use Rattle.std.proofs.Common.{◌≡◌, List, All, subst, sym}
use Rattle.kt_graph.proofs.Common.{made_names, Node, canon_of}
use Rattle.kt_graph.proofs.lemmas.faults.FileLemmas.{canonical_more}
use Rattle.kt_graph.proofs.faults.files.are_canonical.Goals as goal

pub loop-node-preserved : goal.loop-node-preserved
loop-node-preserved c = λ rest.
    c.loop-node.invariant (subst (λ (nodes : List Node). All (λ name. canon_of name ≡ name) (made_names nodes)) (sym c.in-Some.ensures.steps)
    (canonical_more c.in-Some.node c.next.new.self (c.is_canonical_if_made.ensures.quick c.if-not-is_canonical_if_made.false) rest))
