use Rattle.kati.proofs.Common.{arith, refl, rules, devices}
use Rattle.kati.specs.inner.plan.Shown.{plan_view}
use Rattle.kati.proofs.lemmas.RunLemmas.{checked_leaves, written_leaves}
use Rattle.kati.proofs.running.run.Goals as goal

pub returns-in-Some-clause-leaves : goal.returns-in-Some-clause-leaves
returns-in-Some-clause-leaves g c = λ store agrees.
    let out = g.O.Sink.seen c.args.out.now in
    (checked_leaves c.args.args.now store c.planned.new.messages.items (g.F.Files.seen c.planned.new.files).names (plan_view c.in-Ok.plan)
    (devices (g.F.Files.seen c.args.files.now) out (g.E.Sink.seen c.args.err.now))
    (devices (g.F.Files.seen c.check.new.files) out (g.E.Sink.seen c.tell.new.err))
    (c.in-Ok.ensures.means store (omega (arith, c.check.ensures.grows store)))
    (rw c.as_slice.ensures.value at c.in_ok-tell-in-Ok.ensures.tells) c.as_str.result.now c.check.result (search rules)
    (c.check.ensures.checks store agrees) c.check.ensures.asked c.check.ensures.stopped refl)

pub returns-in-Ok-clause-leaves : goal.returns-in-Ok-clause-leaves
returns-in-Ok-clause-leaves g c = λ store agrees.
    (written_leaves c.args.args.now store c.planned.new.messages.items (g.F.Files.seen c.planned.new.files).names (plan_view c.in-Ok.plan)
    (devices (g.F.Files.seen c.args.files.now) (g.O.Sink.seen c.args.out.now) (g.E.Sink.seen c.args.err.now))
    (devices (g.F.Files.seen c.planned.new.files) (g.O.Sink.seen c.write.new.out) (g.E.Sink.seen c.tell.new.err))
    (c.in-Ok.ensures.means store agrees) (rw c.as_slice.ensures.value at c.in_ok-tell-in-Ok.ensures.tells) c.write.result (search rules)
    c.in-Ok.ensures.writable refl c.write.ensures.writes)
