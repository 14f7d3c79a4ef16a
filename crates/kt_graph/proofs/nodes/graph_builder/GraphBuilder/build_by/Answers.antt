use Rattle.std.proofs.Common.{arith, ◌∙◌, List, Some, map, subst, sym}
use Rattle.kt_graph.proofs.Common.{on_ok_weaker, Text, Target, Entry, rule_view, suffixes_of, explicit_node, reached_text, BuildsNode, IsCut}
use Rattle.kt_graph.proofs.lemmas.nodes.OfLemmas.{used_of}
use Rattle.kt_graph.proofs.lemmas.nodes.StepLemmas.{double_with, single_with}
use Rattle.kt_graph.proofs.nodes.graph_builder.GraphBuilder.build_by.Goals as goal

pub returns-then-has_double : goal.returns-then-has_double
returns-then-has_double c = grind (arith, double_with, on_ok_weaker)

pub returns-in-Some : goal.returns-in-Some
returns-in-Some c =
    let book = c.args.self.now.book.now in
    let name = reached_text c.args.name.now in
    let made = map rule_view c.args.rules.now in
    let used = c.in-Some.used in
    let new = c.explicit_node.new.self in
    let same = single_with book c.args.self.now.known.now name made (Some (rule_view used.rule)) (sym c.has_double.ensures ∙ c.if-has_double.false) c.in-Some.ensures.0 in
    on_ok_weaker c.explicit_node.result
    (λ (h : (rules : List (Entry × Target)) → IsCut rules used
    → BuildsNode c.args.self.now (explicit_node (suffixes_of book) (rule_view used.rule).1.name rules (rule_view used.rule)) new).
    subst (λ n. BuildsNode c.args.self.now n new) same
    (subst (λ (n : Text). BuildsNode c.args.self.now (explicit_node (suffixes_of book) n made (rule_view used.rule)) new)
    (used_of name made (rule_view used.rule) c.requires.rules c.in-Some.ensures.0) (h made c.in-Some.ensures.1))) c.explicit_node.ensures
