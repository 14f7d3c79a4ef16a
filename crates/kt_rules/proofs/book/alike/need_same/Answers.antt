use Rattle.std.proofs.Common.{rules}
use Rattle.kt_rules.proofs.lemmas.book.AlikeLemmas.{alike_more}
use Rattle.kt_rules.proofs.book.alike.need_same.Goals as goal

pub loop-spot-preserved : goal.loop-spot-preserved
loop-spot-preserved c = λ rest.
    c.loop-spot.invariant (alike_more c.args.rules.now.1 c.loop-spot.left.now c.loop-spot.others_left.now c.in-Some.spot.now c.in-Some-split_first.other.now
    c.in-Some.after.now c.in-Some-split_first.others_after.now (search rules) (search rules) (c.are_alike.ensures.quick c.if-are_alike.true) rest)
