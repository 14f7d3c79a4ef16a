use Rattle.kt_eval.proofs.Common.{map, err_from_is_err_and}
use Rattle.kt_eval.specs.views.reading.Machine.{read_by, traced_by}
use Rattle.kt_eval.proofs.lemmas.reading.MachineLemmas.{before_reading}
use Rattle.kt_eval.proofs.reading.machine.Machine.read.Goals as goal

pub returns-in_err-empty-clause-reads : goal.returns-in_err-empty-clause-reads
returns-in_err-empty-clause-reads g c = λ store agrees.
    let p = err_from_is_err_and c.from_residual.result c.from_residual.ensures.1 in
    rw (p.1, p.2) tt

pub returns-in_err-empty-clause-cut : goal.returns-in_err-empty-clause-cut
returns-in_err-empty-clause-cut g c = λ store agrees.
    let p = err_from_is_err_and c.from_residual.result c.from_residual.ensures.1 in
    let held = c.args.self.now in
    rw (p.1, p.2)
    (before_reading store (map (λ name. name.now) c.args.names.now) held.limit (read_by held) (traced_by held (g.F.Files.seen c.args.files.now).names))

pub returns-clause-reads : goal.returns-clause-reads
returns-clause-reads g c =
    rw (← c.self.view_is)
    (rw (c.replace-book.ensures.value, c.replace-macros.ensures.value, c.replace-messages.ensures.value) at c.read_once-makefile.ensures.reads)

pub returns-clause-cut : goal.returns-clause-cut
returns-clause-cut g c =
    rw (← c.self.view_is)
    (rw (c.replace-book.ensures.value, c.replace-macros.ensures.value, c.replace-messages.ensures.value) at c.read_once-makefile.ensures.cut)

pub returns-clause-said : goal.returns-clause-said
returns-clause-said g c =
    rw (← c.self.view_is) (rw c.replace-messages.ensures.value at c.read_once-makefile.ensures.said)
