use Rattle.std.proofs.Common.{◌≡◌, ◌++◌, ◌∷◌, ◌-◌, [], length}
use Rattle.kt_graph.proofs.Common.{on_ok_weaker, option_map, rule_view, suffixes_of, Explicit, node_like, stored_at, instance_view}
use Rattle.kt_graph.proofs.lemmas.nodes.LikeLemmas.{holds_like}
use Rattle.kt_graph.proofs.nodes.graph_builder.GraphBuilder.node_like_last.Goals as goal

pub returns : goal.returns
returns c =
    let old = c.args.self.now in
    let middle = c.making.new.self in
    let made_with = c.in_ok-made_with.made_with in
    on_ok_weaker c.push_like.result
    (λ (h : c.push_like.new.self ≡ middle.nodes ++ node_like Explicit made_with c.in_ok-part.part (stored_at middle.nodes (length old.nodes - 1)) ∷ []).
    holds_like old middle c.push_like.new.self (suffixes_of old.book.now) (rule_view c.args.rule).1.name (rule_view c.args.rule) c.in_ok-part.part
    (option_map instance_view c.in_ok-making.making) made_with c.in_ok-made_with.ensures.others c.in_ok-made_with.ensures.kept c.in_ok-made_with.ensures.making
    c.in_ok-making.ensures c.in_ok-part.ensures c.requires h) (rw (c.saturating_sub-last.ensures, c.len.ensures.len) at c.push_like.ensures)
