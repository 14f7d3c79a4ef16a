use Rattle.std.proofs.Common.{◌++◌, ⊎_elim, codes, subst}
use Rattle.kt_text.specs.Words.{Text}
use Rattle.kati.specs.ErrorOutput.{WritesOrFails}
use Rattle.kati.proofs.program.tell.Goals as goal

pub returns-in-Read-clause-told : goal.returns-in-Read-clause-told
returns-in-Read-clause-told g c = rw c.in-Read.is
    (subst (λ (name : Text). WritesOrFails (codes "kati: cannot read " ++ (name ++ codes "\n")) (g.E.Sink.seen c.args.err.now)
    (g.E.Sink.seen c.tell_line.new.err)) c.as_str.ensures.value c.tell_line.ensures.told)

pub returns-in-Memory-clause-told : goal.returns-in-Memory-clause-told
returns-in-Memory-clause-told g c = rw c.in-Memory.is c.tell_text.ensures.told

pub returns-in-WriteOut-clause-told : goal.returns-in-WriteOut-clause-told
returns-in-WriteOut-clause-told g c = ⊎_elim (λ is. rw is c.tell_text-in-WriteOut.ensures.told) (λ is. rw is c.tell_text-in-WriteOut.ensures.told) c.in-WriteOut.is
