use Rattle.kati.proofs.Common.{rules, last_after}
use Rattle.kati.proofs.lemmas.BlameLemmas.{asks_blames}
use Rattle.kati.proofs.listing.read_list.Goals as goal

pub returns-in-Ok-clause-blames : goal.returns-in-Ok-clause-blames
returns-in-Ok-clause-blames g c = asks_blames c.list_in.result _ _ _ (search rules) c.list_in.ensures.asks_nothing

pub returns-in-Err-Device-clause-blames : goal.returns-in-Err-Device-clause-blames
returns-in-Err-Device-clause-blames g c = (search rules, search (rules, last_after))
