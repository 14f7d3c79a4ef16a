use Rattle.std.proofs.Common.{arith, sym, ◌∙◌}
use Rattle.kt_rules.proofs.lemmas.line.ReadingLemmas.{told_fault, head_fault, line_tested}
use Rattle.kt_rules.proofs.lemmas.line.SignLemmas.{signs_tell}
use Rattle.kt_rules.specs.inner.Heads.{head_view}
use Rattle.kt_rules.proofs.line.reading.read_rule.Goals as goal

pub returns-in-Err : goal.returns-in-Err
returns-in-Err c = grind (arith, told_fault, head_fault)

pub accepted-requires : goal.accepted-requires
accepted-requires c =
    signs_tell (head_view c.in-Ok.head) c.of-signs.result c.in-Ok-of.line c.of-signs.ensures c.in-Ok-of.ensures

pub returns-in-Ok-of : goal.returns-in-Ok-of
returns-in-Ok-of c =
    rw (line_tested c.args.text.now c.args.recipe c.args.place _ c.in-Ok-of.line (sym c.is_blank.ensures ∙ c.if-is_blank.false) c.in-Ok.ensures
    c.in-Ok-of.ensures) c.accepted.ensures
