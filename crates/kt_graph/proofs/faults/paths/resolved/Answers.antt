use Rattle.kt_graph.proofs.Common.{drop, ap, drop_all}
use Rattle.kt_graph.proofs.lemmas.faults.PartLemmas.{canon_is, told}
use Rattle.kt_graph.proofs.faults.paths.resolved.Goals as goal

pub returns : goal.returns
returns c =
    let all = canon_is c.args.name.now c.is_rooted-rooted.result c.loop-part.parts.items (told (drop c.loop-part.part-index c.as_slice-part-items.result.now))
    c.is_rooted-rooted.ensures (ap told (drop_all c.loop-part.part-index c.as_slice-part-items.result.now c.loop-part-test.false)) c.loop-part.invariant in
    rw (all, ← c.as_slice.ensures.value) c.spelled.ensures
