use Rattle.std.proofs.Common.{◌≡◌, ◌∷◌, ◌∙◌, [], ap, map, subst, sym}
use Rattle.kt_graph.proofs.Common.{All-head, AreOf, Entry, Target, on_ok_weaker, Text, rule_view, suffixes_of, BuildsNode, sole_node, reached_text, node_with}
use Rattle.kt_graph.proofs.lemmas.nodes.InputLemmas.{one_alone}
use Rattle.kt_graph.proofs.lemmas.nodes.LikeLemmas.{last_needs, sole_is}
use Rattle.kt_graph.proofs.lemmas.nodes.OfLemmas.{explicit_of}
use Rattle.kt_graph.proofs.nodes.graph_builder.GraphBuilder.build_from.Goals as goal

pub node_like_last-requires : goal.node_like_last-requires
node_like_last-requires c =
    last_needs c.args.self.now (reached_text c.args.name.now) (rule_view c.rule-item.result) c.requires.told (c.is_like_last.ensures.quick c.if-is_like_last.true)
    (sym (ap (map rule_view) (one_alone c.args.rules.now c.rule-item.result c.in-len1.len_at_least c.in-len1.len_below c.rule-item.is)) ∙ c.requires.rules)

pub returns-then-is_like_last : goal.returns-then-is_like_last
returns-then-is_like_last c =
    let builder = c.args.self.now in
    let book = builder.book.now in
    let known = builder.known.now in
    let name = reached_text c.args.name.now in
    let rule = rule_view c.rule-item.result in
    let new = c.node_like_last.new.self in
    let like = c.is_like_last.ensures.quick c.if-is_like_last.true in
    let only : map rule_view c.args.rules.now ≡ rule ∷ []
    = ap (map rule_view) (one_alone c.args.rules.now c.rule-item.result c.in-len1.len_at_least c.in-len1.len_below c.rule-item.is) in
    on_ok_weaker c.node_like_last.result
    (λ (h : BuildsNode builder (sole_node (suffixes_of book) rule.1.name rule) new).
    subst (λ n. BuildsNode builder n new) (sym (ap (node_with book known name) only ∙ sole_is book known name rule like.recipe like.single))
    (subst (λ (n : Text). BuildsNode builder (sole_node (suffixes_of book) n rule) new)
    (All-head (λ (made : Entry × Target). made.1.name ≡ name) rule [] (subst (AreOf name) only (explicit_of book name (map rule_view c.args.rules.now) c.requires.rules)))
    h)) c.node_like_last.ensures
