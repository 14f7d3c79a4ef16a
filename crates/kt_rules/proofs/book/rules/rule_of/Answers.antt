use Rattle.kt_rules.proofs.Common.{names_at, rule_by}
use Rattle.kt_rules.proofs.book.rules.rule_of.Goals as goal

pub returns-clause-told : goal.returns-clause-told
returns-clause-told c =
    λ j.
    rule_by c.args.row.now.kind (names_at (c.names.ensures j) (c.list.ensures.numbers j)) (c.name_if.ensures j)
    (record {
      prerequisites = names_at (c.names.ensures j) (c.list-2.ensures.numbers j);
      order_only = names_at (c.names.ensures j) (c.list-3.ensures.numbers j);
    }) (c.lines_if.ensures j) c.args.row.now.place
