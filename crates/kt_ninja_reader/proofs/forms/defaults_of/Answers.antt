use Rattle.std.proofs.Common.{◌∙◌, sym}
use Rattle.kt_ninja_reader.proofs.lemmas.LineLemmas.{defaults_by, defaults_none}
use Rattle.kt_ninja_reader.proofs.forms.defaults_of.Goals as goal

pub returns-then-has_plain : goal.returns-then-has_plain
returns-then-has_plain c = defaults_none c.args.line.now (sym c.has_plain.ensures ∙ c.if-has_plain.true)

pub returns : goal.returns
returns c = rw (defaults_by c.args.line.now (sym c.has_plain.ensures ∙ c.if-has_plain.false)) c.paths.ensures
