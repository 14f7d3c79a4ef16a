use Rattle.std.proofs.Common.{sym, ◌∙◌}
use Rattle.kt_text.proofs.lemmas.CondensedLemmas.{without_newline}
use Rattle.kt_text.proofs.condense.joined.Goals as goal

pub returns : goal.returns
returns c = sym (without_newline c.args.text.now (sym c.has_byte.ensures ∙ c.if-has_byte.false))
