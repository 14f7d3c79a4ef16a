use Rattle.kati.proofs.Common.{subst, Text, GrowsByFront, Takes, front_after, front_of_more, takes_twice}
use Rattle.kati.proofs.lemmas.BlameLemmas.{on_err, on_err_weaker, on_ok_weaker}
use Rattle.kati.proofs.program.put_help.Goals as goal

pub returns-in_err-put-clause-fault : goal.returns-in_err-put-clause-fault
returns-in_err-put-clause-fault g c =
    on_err c.from_residual.result _ (front_of_more (g.O.Sink.seen c.args.out.now) (g.O.Sink.seen c.put.new.sink) c.args.lead.now c.args.text.now
    c.in_err-put.ensures.fault)

pub returns-clause-ok : goal.returns-clause-ok
returns-clause-ok g c =
    on_ok_weaker c.put-2.result _ _
    (λ taken. takes_twice (g.O.Sink.seen c.args.out.now) (g.O.Sink.seen c.put.new.sink) (g.O.Sink.seen c.put-2.new.sink)
    c.args.lead.now c.args.text.now c.in_ok-put.ensures.ok
    (subst (λ (text : Text). Takes (g.O.Sink.seen c.put.new.sink) (g.O.Sink.seen c.put-2.new.sink) text) c.as_bytes.ensures.value taken))
    c.put-2.ensures.ok

pub returns-clause-fault : goal.returns-clause-fault
returns-clause-fault g c =
    on_err_weaker c.put-2.result _ _
    (λ cut. front_after (g.O.Sink.seen c.args.out.now) (g.O.Sink.seen c.put.new.sink) (g.O.Sink.seen c.put-2.new.sink)
    c.args.lead.now c.args.text.now c.in_ok-put.ensures.ok
    (subst (λ (text : Text). GrowsByFront (g.O.Sink.seen c.put.new.sink) (g.O.Sink.seen c.put-2.new.sink) text) c.as_bytes.ensures.value cut))
    c.put-2.ensures.fault
