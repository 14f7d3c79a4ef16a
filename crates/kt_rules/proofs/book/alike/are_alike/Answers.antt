use Rattle.kt_rules.specs.views.Targets.{rule_view}
use Rattle.kt_rules.proofs.lemmas.book.AlikeLemmas.{alike_by_entry}
use Rattle.kt_rules.proofs.book.alike.are_alike.Goals as goal

pub returns-then-is_common : goal.returns-then-is_common
returns-then-is_common c = record {
  quick = λ common_too.
      alike_by_entry c.args.rules.now.1 c.args.spot c.args.other (rule_view c.in-Some.rule) (rule_view c.in-Some-rule_at.second) (c.say_same.ensures.quick c.if-not-say_same.false) c.in-Some.ensures c.in-Some-rule_at.ensures
      (c.is_common.ensures.quick c.if-is_common.true) (c.is_common-then-is_common.ensures.quick common_too);
}
