use Rattle.kt_rules.proofs.Common.{arith, length-drop, length-take}
use Rattle.kt_rules.proofs.lemmas.DotLemmas.{no_dots, past_slashes}
use Rattle.kt_rules.proofs.name.past_dot.Goals as goal

pub returns-in-None : goal.returns-in-None
returns-in-None c = no_dots c.args.name.now c.in-None.ensures.cases

pub returns-in-Some : goal.returns-in-Some
returns-in-Some c = grind (arith, past_slashes, length-take, length-drop)
