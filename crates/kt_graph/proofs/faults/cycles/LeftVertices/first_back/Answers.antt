use Rattle.std.proofs.Common.{◌∙◌, sym}
use Rattle.kt_graph.proofs.Common.{false≢true, All-more, LeadsBack}
use Rattle.kt_graph.proofs.faults.cycles.LeftVertices.first_back.Goals as goal

pub loop-vertex-preserved : goal.loop-vertex-preserved
loop-vertex-preserved c =
    All-more (λ vertex. ¬ LeadsBack c.args.edges.now vertex) c.args.order.now c.loop-vertex.vertex-index 0 c.loop-vertex-test.true c.loop-vertex.invariant
    (λ back. false≢true (sym c.if-branch.false ∙ c.in_ok-is_circular.ensures.1 back))
