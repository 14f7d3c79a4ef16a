use Rattle.std.proofs.Common.{sym, ◌∙◌}
use Rattle.kt_syntax.proofs.lemmas.SymbolLemmas.{not_there, nothing_uncommented}
use Rattle.kt_syntax.proofs.comment.uncommented.Goals as goal

pub returns : goal.returns
returns c = nothing_uncommented c.args.text.now (not_there 35 c.args.text.now (sym c.has_byte.ensures ∙ c.if-has_byte.false))
