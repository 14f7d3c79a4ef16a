use Rattle.std.proofs.Common.{◌∙◌, List, map, subst}
use Rattle.kt_graph.proofs.Common.{on_ok_weaker, option_map, Text, Target, Entry, rule_view, suffixes_of, needs_view, Explicit, needing_view, single_node, group_of, other_rules, joined_needs, needs_after, part_of, needs_for, BuildsNode, instance_view}
use Rattle.kt_graph.proofs.lemmas.nodes.BuildingLemmas.{used_needs}
use Rattle.kt_graph.proofs.lemmas.nodes.StepLemmas.{single_told}
use Rattle.kt_graph.proofs.nodes.graph_builder.GraphBuilder.explicit_node.Goals as goal

pub returns : goal.returns
returns c =
    let used = c.args.used in
    let rule = rule_view used.rule in
    let part = c.in_ok-part.part in
    let needing = c.after-needing.result in
    let making = option_map instance_view c.in_ok-making.making in
    let given = λ (rules : List (Entry × Target)). needs_after (needs_for rule.0 rule.1) (joined_needs (other_rules rules)) in
    on_ok_weaker c.hold.result
    (λ (h : (name : Text) → BuildsNode c.args.self.now (single_node name Explicit part (needing_view needing) making) c.hold.new.self) rules cut.
    subst (λ n. BuildsNode c.args.self.now n c.hold.new.self)
    (single_told rule.1.name Explicit part (needing_view needing) (given rules) making (group_of rule.0) (part_of (suffixes_of c.args.self.now.book.now) rule (given rules))
    (c.after-needing.ensures
    ∙ used_needs (needs_view c.needs.result) rule rules (map rule_view used.earlier.now) (map rule_view used.later.now) c.needs.ensures cut.before cut.after)
    (c.in_ok-part.ensures (given rules)) c.in_ok-making.ensures)
    (h rule.1.name)) c.hold.ensures
