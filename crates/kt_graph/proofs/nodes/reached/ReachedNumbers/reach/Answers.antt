use Rattle.kt_graph.proofs.Common.{IfOk-weaker, IsPushed, ReachesNumber}
use Rattle.kt_graph.proofs.lemmas.nodes.ReachedNames.{reached_before, reached_now}
use Rattle.kt_graph.proofs.nodes.reached.ReachedNumbers.reach.Goals as goal

pub returns-in-Some-clause-reached : goal.returns-in-Some-clause-reached
returns-in-Some-clause-reached c = λ names name is at.
    reached_before names c.args.self.now name c.args.number c.in-Some.place c.in-Some.ensures is at

pub returns-in-None-clause-reached : goal.returns-in-None-clause-reached
returns-in-None-clause-reached c =
    let old = c.args.self.now in
    let new = c.push.new.self in
    let number = c.args.number in
    IfOk-weaker c.push.result (IsPushed old number new) (ReachesNumber old number new)
    (λ place pushed names name is at. reached_now names old new name number place c.in-None.ensures pushed is at) c.push.ensures.pushed
