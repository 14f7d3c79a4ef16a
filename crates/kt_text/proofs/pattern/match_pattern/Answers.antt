use Rattle.std.proofs.Common.{arith}
use Rattle.kt_text.proofs.lemmas.MatchLemmas.{no_Match-plain, IfNone-apart}
use Rattle.kt_text.proofs.pattern.match_pattern.Goals as goal

pub returns-in-None-clause-no_match : goal.returns-in-None-clause-no_match
returns-in-None-clause-no_match c = no_Match-plain c.args.pattern.now c.args.word.now c.in-None.ensures

pub returns-in-Some-clause-no_match : goal.returns-in-Some-clause-no_match
returns-in-Some-clause-no_match c = grind (arith, IfNone-apart)
