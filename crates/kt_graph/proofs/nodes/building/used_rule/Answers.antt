use Rattle.std.proofs.Common.{◌≡◌, true, rules, arith}
use Rattle.kt_graph.proofs.Common.{has_recipe, rule_view}
use Rattle.kt_graph.proofs.lemmas.nodes.BuildingLemmas.{used_at}
use Rattle.kt_graph.proofs.nodes.building.used_rule.Goals as goal

pub returns-then-is_some : goal.returns-then-is_some
returns-then-is_some c =
    let passes : has_recipe (rule_view c.rule-item.result) ≡ true = search rules in
    let found = used_at has_recipe rule_view c.args.rules.now c.loop-left.left.now c.rule-item.result c.loop-left.invariant.within (omega arith) c.rule-item.is passes
    c.loop-left.invariant.none in
    (found.0, record { before = found.1; after = found.2 })
