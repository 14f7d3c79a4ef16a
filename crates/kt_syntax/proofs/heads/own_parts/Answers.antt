use Rattle.kt_syntax.proofs.lemmas.HeadLemmas.{uncut_parts}
use Rattle.kt_syntax.proofs.heads.own_parts.Goals as goal

pub returns-in-None : goal.returns-in-None
returns-in-None c = uncut_parts c.args.text.now c.in-None.ensures
