use Rattle.std.proofs.Common.{◌≡◌, fold, map, take}
use Rattle.kt_graph.proofs.Common.{AreOf, Text, with_name, rule_view, suffixes_of, needed_by_parts, SayParts, parts_held, own_part}
use Rattle.kt_graph.proofs.nodes.building.double_parts.Given as goal

abbrev pub invariant-loop-rule : goal.invariant-loop-rule
invariant-loop-rule l = record {
  say : (name : Text) → AreOf name (map rule_view l.rules) → SayParts l.names name (map (own_part (suffixes_of l.book)) (map rule_view (take l.rule-index l.rules))) (parts_held l.parts.items);
  reached : l.names ≡ fold with_name l.fn.names (needed_by_parts (map (own_part (suffixes_of l.book)) (map rule_view (take l.rule-index l.rules))));
}
