use Rattle.std.proofs.Common.{sym, ◌∙◌}
use Rattle.kt_syntax.proofs.lemmas.SymbolLemmas.{no_comment, not_there}
use Rattle.kt_syntax.proofs.places.comment_place.Goals as goal

pub returns-clause-value : goal.returns-clause-value
returns-clause-value c = no_comment c.args.text.now (not_there 35 c.args.text.now (sym c.has_byte.ensures ∙ c.if-has_byte.false))
