use Rattle.kt_rules.specs.views.Targets.{entry_view}
use Rattle.kt_rules.proofs.lemmas.book.SpotLemmas.{rules_left}
use Rattle.kt_rules.proofs.book.entries.first_entry.Goals as goal

pub returns-then-from-len : goal.returns-then-from-len
returns-then-from-len c = rules_left c.args.rules.now.1 c.args.from (entry_view c.in_ok-rule.rule) c.in_ok-rule.ensures.told
