use Rattle.kt_graph.proofs.Common.{All-more, HaveOneMaking, stored_at}
use Rattle.kt_graph.proofs.nodes.grouping.are_all_alike.Goals as goal

pub loop-number-preserved : goal.loop-number-preserved
loop-number-preserved c =
    let nodes = c.args.nodes.now in
    All-more (λ number. HaveOneMaking (stored_at nodes c.args.one) (stored_at nodes number)) c.args.numbers.now c.loop-number.number-index 0 c.loop-number-test.true
    c.loop-number.invariant (c.are_alike.ensures.quick c.if-not-are_alike.false)
