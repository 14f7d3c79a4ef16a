use Rattle.std.proofs.Common.{◌≡◌, ℕ, List, [], subst, arith}
use Rattle.kt_graph.proofs.Common.{append-nil, nil_from_length, AreCounted}
use Rattle.kt_graph.proofs.lemmas.faults.ArrivalLemmas.{after_more, many_after}
use Rattle.kt_graph.proofs.faults.cycles.leave_after.Goals as goal

pub loop-vertex-preserved : goal.loop-vertex-preserved
loop-vertex-preserved c = λ rest counted.
    after_more c.args.edges.now c.loop-vertex.counts.items c.leave_all.new.counts.items c.leave_all-in-Some.new.counts.items
    c.pop.new.self.items c.leave_all.new.work.items c.leave_all-in-Some.new.work.items rest c.in-Some.vertex c.next.result.0.now c.next.result.1.now
    (rw c.in-Some.ensures.items at (c.loop-vertex.invariant rest counted)) c.next.ensures c.in_ok-leave_all.ensures c.in_ok-leave_all-2.ensures

pub loop-vertex-smaller : goal.loop-vertex-smaller
loop-vertex-smaller c =
    let one = many_after c.loop-vertex.counts.items c.pop.new.self.items c.leave_all.new.counts.items c.leave_all.new.work.items c.next.result.0.now c.in_ok-leave_all.ensures in
    let two = many_after c.leave_all.new.counts.items c.leave_all.new.work.items c.leave_all-in-Some.new.counts.items c.leave_all-in-Some.new.work.items c.next.result.1.now
    c.in_ok-leave_all-2.ensures in
    let popped = c.in-Some.ensures.cases in
    omega arith

pub returns-clause-done : goal.returns-clause-done
returns-clause-done c = grind (arith, nil_from_length, append-nil)

pub returns-clause-counted : goal.returns-clause-counted
returns-clause-counted c = λ rest counted.
    let none : c.loop-vertex.work.items ≡ [] = nil_from_length c.loop-vertex.work.items (omega (arith, c.in_default.ensures.cases.0, c.loop-vertex.work.ok.0)) in
    subst (λ (work : List ℕ). AreCounted c.args.edges.now c.loop-vertex.counts.items work rest) none (c.loop-vertex.invariant rest counted)
