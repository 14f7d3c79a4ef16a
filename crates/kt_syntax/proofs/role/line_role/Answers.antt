use Rattle.std.proofs.Common.{sym, ◌∙◌}
use Rattle.kt_syntax.proofs.lemmas.RoleLemmas.{else_role, endif_role}
use Rattle.kt_syntax.proofs.role.line_role.Goals as goal

pub returns-then-is_word : goal.returns-then-is_word
returns-then-is_word c = endif_role c.args.line.now (sym c.is_word.ensures ∙ c.if-is_word.true)

pub returns-then-is_word-2 : goal.returns-then-is_word-2
returns-then-is_word-2 c = else_role c.args.line.now (sym c.is_word-2.ensures ∙ c.if-is_word-2.true)
