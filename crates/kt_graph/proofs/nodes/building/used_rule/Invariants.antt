use Rattle.std.proofs.Common.{◌≡◌, [], drop, filter, length, map, take}
use Rattle.kt_graph.proofs.Common.{has_recipe, rule_view}
use Rattle.kt_graph.proofs.nodes.building.used_rule.Given as goal

abbrev pub invariant-loop-left : goal.invariant-loop-left
invariant-loop-left l = record {
  within : l.left ≡ take (length l.left) l.rules;
  none : filter has_recipe (map rule_view (drop (length l.left) l.rules)) ≡ [];
}

abbrev pub decreases-loop-left : goal.decreases-loop-left
decreases-loop-left l = length l.left
