use Rattle.std.proofs.Common.{◌≡◌, ◌++◌, ◌∷◌, []}
use Rattle.kt_graph.proofs.Common.{on_ok_weaker, option_map, needing_view, stored_with, part_held, instance_view}
use Rattle.kt_graph.proofs.lemmas.nodes.StepLemmas.{holds_node}
use Rattle.kt_graph.proofs.nodes.graph_builder.GraphBuilder.hold.Goals as goal

pub returns : goal.returns
returns c =
    let middle = c.making.new.self in
    let made_with = c.in_ok-made_with.made_with in
    on_ok_weaker c.push.result
    (λ (h : c.push.new.self ≡ middle.nodes ++ stored_with c.args.kind made_with (part_held c.args.part middle.needs ∷ []) ∷ []) name.
    holds_node c.args.self.now middle c.number_needs.new.self c.number_needs.new.numbered c.push.new.self name c.args.kind c.args.part
    (needing_view c.args.needing) (option_map instance_view c.args.making) made_with c.in_ok-made_with.ensures.others
    c.in_ok-number_needs.ensures.reached c.in_ok-number_needs.ensures.says c.in_ok-made_with.ensures.kept c.in_ok-made_with.ensures.making h) c.push.ensures
