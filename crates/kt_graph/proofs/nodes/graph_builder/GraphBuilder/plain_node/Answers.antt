use Rattle.std.proofs.Common.{arith, ◌∙◌, None, ap, map, subst}
use Rattle.kt_graph.proofs.Common.{on_ok_weaker, Text, is_phony, rule_view, suffixes_of, needing_view, single_node, reached_text, BuildsNode}
use Rattle.kt_graph.proofs.lemmas.nodes.BuildingLemmas.{joined_alone}
use Rattle.kt_graph.proofs.lemmas.nodes.StepLemmas.{leaf_told, plain_told}
use Rattle.kt_graph.proofs.nodes.graph_builder.GraphBuilder.plain_node.Goals as goal

pub returns-then-is_leaf : goal.returns-then-is_leaf
returns-then-is_leaf c = grind (arith, leaf_told, on_ok_weaker)

pub returns : goal.returns
returns c =
    let book = c.args.self.now.book.now in
    let name = reached_text c.args.name.now in
    let made = map rule_view c.args.rules.now in
    let kind = c.kind_without.result in
    let needs = needing_view c.of_rules-needing.result in
    let part = c.bare-part.result in
    on_ok_weaker c.hold.result (λ (h : (name : Text) → BuildsNode c.args.self.now (single_node name kind part needs None) c.hold.new.self).
    subst (λ n. BuildsNode c.args.self.now n c.hold.new.self)
    (plain_told (suffixes_of book) name made c.is_phony-is_phony.result (is_phony book name) kind part needs c.kind_without.ensures
    (c.is_phony-is_phony.ensures ∙ ap (is_phony book) c.as_slice.ensures) c.bare-part.ensures.recipe c.bare-part.ensures.stem (c.of_rules-needing.ensures ∙ joined_alone made))
    (h name)) c.hold.ensures
