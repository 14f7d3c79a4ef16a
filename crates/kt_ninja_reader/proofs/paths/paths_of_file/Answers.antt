use Rattle.kt_ninja_reader.proofs.Common.{ap, paths_in, value_in, value_within}
use Rattle.kt_ninja_reader.proofs.lemmas.StateLemmas.{carried, within_none}
use Rattle.kt_ninja_reader.proofs.paths.paths_of_file.Goals as goal

pub returns : goal.returns
returns c =
    carried (paths_in (value_within c.new-none.result c.args.file.now) c.args.targets.now) (paths_in (value_in c.args.file.now) c.args.targets.now) c.paths_within.result
    (ap (λ v. paths_in v c.args.targets.now) (within_none c.new-none.result c.args.file.now c.new-none.ensures)) c.paths_within.ensures
