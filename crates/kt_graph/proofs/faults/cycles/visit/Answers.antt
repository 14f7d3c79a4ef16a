use Rattle.kt_graph.proofs.lemmas.faults.MarkLemmas.{visits_more}
use Rattle.kt_graph.proofs.faults.cycles.visit.Goals as goal

pub loop-vertex-preserved : goal.loop-vertex-preserved
loop-vertex-preserved c =
    visits_more c.args.vertices.now c.args.unvisited.now.items c.loop-vertex.unvisited.items c.take.new.marks.items c.args.work.now.items c.loop-vertex.work.items
    c.take.new.work.items c.loop-vertex.vertex-index c.loop-vertex.invariant c.loop-vertex-test.true c.in_ok-take.ensures.taken c.in_ok-take.ensures.noted
