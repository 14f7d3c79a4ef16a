use Rattle.kt_graph.proofs.Common.{map, take, rule_view, rules_needs, AddsNumbers}
use Rattle.kt_graph.proofs.nodes.numbering.NameNumbers.add_rules.Given as goal

abbrev pub invariant-loop-rule : goal.invariant-loop-rule
invariant-loop-rule l =
    AddsNumbers l.fn.self l.fn.numbers.items (rules_needs l.sort (map rule_view (take l.rule-index l.rules))) l.self l.numbers.items
