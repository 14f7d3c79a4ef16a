use Rattle.std.proofs.Common.{arith, sym}
use Rattle.std.proofs.lemmas.Bool.{not-true}
use Rattle.kt_syntax.specs.Roles.{line_text}
use Rattle.kt_syntax.proofs.lemmas.RoleLemmas.{first_role, tab_role}
use Rattle.kt_syntax.proofs.role.opens_nothing.Goals as goal

pub returns-then-line-clause-quick_role : goal.returns-then-line-clause-quick_role
returns-then-line-clause-quick_role c = λ _. rw c.if-line.true (sym (tab_role (line_text c.args.text.now c.args.line.now)))

pub returns-clause-quick_role : goal.returns-clause-quick_role
returns-clause-quick_role c = grind (arith, not-true, first_role)
