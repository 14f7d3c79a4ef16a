use Rattle.std.proofs.Common.{◌≡◌, ◌++◌, ◌∷◌, [], None, map}
use Rattle.kt_graph.proofs.Common.{on_ok_weaker, rule_view, suffixes_of, DoubleColon, stored_with, parts_held}
use Rattle.kt_graph.proofs.lemmas.nodes.StepLemmas.{holds_double}
use Rattle.kt_graph.proofs.nodes.graph_builder.GraphBuilder.double_node.Goals as goal

pub returns : goal.returns
returns c =
    let old = c.args.self.now in
    let parts = parts_held c.in_ok-parts.parts.items in
    on_ok_weaker c.push_double.result (λ (h : c.push_double.new.self ≡ old.nodes ++ stored_with DoubleColon None parts ∷ []) name of.
    holds_double old c.double_parts.new.names c.push_double.new.self (suffixes_of old.book.now) name (map rule_view c.args.rules.now) parts
    c.in_ok-parts.ensures.reached (c.in_ok-parts.ensures.say name of) h) c.push_double.ensures
