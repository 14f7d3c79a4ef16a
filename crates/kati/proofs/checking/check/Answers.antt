use Rattle.kati.proofs.Common.{rules, last_after}
use Rattle.kati.proofs.checking.check.Goals as goal

pub returns-in-Err-Device-clause-blames : goal.returns-in-Err-Device-clause-blames
returns-in-Err-Device-clause-blames g c = (search rules, search (rules, last_after))
