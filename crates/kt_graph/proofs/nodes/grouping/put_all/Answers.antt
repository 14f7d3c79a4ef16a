use Rattle.std.proofs.Common.{◌<◌, ◌∙◌, [], length, get_or, arith}
use Rattle.kt_graph.proofs.Common.{append-nil, drop_all, get_or_default}
use Rattle.kt_graph.proofs.lemmas.nodes.GroupingLemmas.{put_more}
use Rattle.kt_graph.proofs.nodes.grouping.put_all.Goals as goal

pub loop-number-preserved : goal.loop-number-preserved
loop-number-preserved c =
    let within : c.loop-number.number-index < length c.args.numbers.now = omega arith in
    put_more c.args.table.now [] c.args.numbers.now c.loop-number.number-index (get_or c.args.numbers.now c.loop-number.number-index 0)
    c.loop-number.group.items c.put.new.group.items within
    (get_or_default c.args.numbers.now c.loop-number.number-index 0 (get_or c.args.numbers.now c.loop-number.number-index 0) within) c.in_ok-put.ensures
    ∙ c.loop-number.invariant

pub returns : goal.returns
returns c = grind (arith, append-nil, drop_all)
