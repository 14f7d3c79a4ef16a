use Rattle.kati.proofs.lemmas.AskedLemmas.{reads_asked}
use Rattle.kati.proofs.makefile.read.Goals as goal

pub returns-clause-reads : goal.returns-clause-reads
returns-clause-reads g c = λ fresh store agrees.
    c.told_and_read.ensures.gives _ _ (rw c.finish.ensures (c.read_by_name-ended.ensures.reads fresh store agrees))

pub returns-clause-asked : goal.returns-clause-asked
returns-clause-asked g c = λ fresh store agrees.
    reads_asked _ c.read_by_name-ended.result _ _ (c.read_by_name-ended.ensures.reads fresh store agrees) (c.read_by_name-ended.ensures.cut fresh store agrees)
