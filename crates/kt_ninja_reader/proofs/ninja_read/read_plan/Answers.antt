use Rattle.kt_ninja_reader.proofs.lemmas.ReaderLemmas.{copy}
use Rattle.kt_ninja_reader.proofs.ninja_read.read_plan.Goals as goal

pub returns-clause-printed : goal.returns-clause-printed
returns-clause-printed c = copy c.read.result c.args.text.now c.read.ensures
