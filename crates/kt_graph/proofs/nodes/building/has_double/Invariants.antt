use Rattle.std.proofs.Common.{◌≡◌, drop, map}
use Rattle.kt_graph.proofs.Common.{list_any, is_double, rule_view}
use Rattle.kt_graph.proofs.nodes.building.has_double.Given as goal

abbrev pub invariant-loop-rule : goal.invariant-loop-rule
invariant-loop-rule l =
    list_any (λ rule. is_double rule.0.kind) (map rule_view (drop l.rule-index l.rules)) ≡ list_any (λ rule. is_double rule.0.kind) (map rule_view l.rules)
