use Rattle.kati.proofs.Common.{[], traced}
use Rattle.kati.proofs.lemmas.AskedLemmas.{before_makefile}
use Rattle.kati.proofs.makefile.makefile_read.Goals as goal

pub returns-in-Err-clause-asked : goal.returns-in-Err-clause-asked
returns-in-Err-clause-asked g c = λ store agrees.
    before_makefile c.args.args.now store (traced [] (g.F.Files.seen c.args.files.now).names)
