use Rattle.kati.proofs.lemmas.meaning.LimitLemmas.{only_cuts, only_cuts_runs}
use Rattle.kati.proofs.laws.limit_cuts.Goals as goal

pub returns-clause-meanings : goal.returns-clause-meanings
returns-clause-meanings c = only_cuts

pub returns-clause-runs : goal.returns-clause-runs
returns-clause-runs c = only_cuts_runs
