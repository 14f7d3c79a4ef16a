use Rattle.std.proofs.Common.{◌++◌, [], ◌∷◌, subst}
use Rattle.kati.proofs.Common.{Text, GrowsByFront, Takes}
use Rattle.kati.proofs.lemmas.TellLemmas.{told_after, told_by, told_cut}
use Rattle.kati.proofs.program.put_line.Goals as goal

pub returns-in_err-put-clause-told : goal.returns-in_err-put-clause-told
returns-in_err-put-clause-told g c =
    told_cut c.args.words.now (c.args.name.now ++ 10 ∷ []) (g.E.Sink.seen c.args.err.now) (g.E.Sink.seen c.put.new.sink)
    c.in_err-put.ensures.failed c.in_err-put.ensures.fault

pub returns-in_err-put-2-clause-told : goal.returns-in_err-put-2-clause-told
returns-in_err-put-2-clause-told g c =
    told_after c.args.words.now (c.args.name.now ++ 10 ∷ []) (g.E.Sink.seen c.args.err.now) (g.E.Sink.seen c.put.new.sink) (g.E.Sink.seen c.put-2.new.sink)
    c.in_ok-put.ensures.counts c.in_ok-put.ensures.ok
    (told_cut c.args.name.now (10 ∷ []) (g.E.Sink.seen c.put.new.sink) (g.E.Sink.seen c.put-2.new.sink) c.in_err-put-2.ensures.failed
    (subst (λ (name : Text). GrowsByFront (g.E.Sink.seen c.put.new.sink) (g.E.Sink.seen c.put-2.new.sink) name)
    c.as_bytes.ensures.value c.in_err-put-2.ensures.fault))

pub returns-clause-told : goal.returns-clause-told
returns-clause-told g c =
    told_after c.args.words.now (c.args.name.now ++ 10 ∷ []) (g.E.Sink.seen c.args.err.now) (g.E.Sink.seen c.put.new.sink) (g.E.Sink.seen c.put-3.new.sink)
    c.in_ok-put.ensures.counts c.in_ok-put.ensures.ok
    (told_after c.args.name.now (10 ∷ []) (g.E.Sink.seen c.put.new.sink) (g.E.Sink.seen c.put-2.new.sink) (g.E.Sink.seen c.put-3.new.sink)
    c.in_ok-put-2.ensures.counts
    (subst (λ (name : Text). Takes (g.E.Sink.seen c.put.new.sink) (g.E.Sink.seen c.put-2.new.sink) name)
    c.as_bytes.ensures.value c.in_ok-put-2.ensures.ok)
    (told_by c.put-3.result (10 ∷ []) (g.E.Sink.seen c.put-2.new.sink) (g.E.Sink.seen c.put-3.new.sink)
    c.put-3.ensures.ok c.put-3.ensures.fault c.put-3.ensures.failed))
