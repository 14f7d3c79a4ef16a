use Rattle.std.proofs.Common.{◌≡◌, ◌++◌, map}
use Rattle.kt_graph.proofs.Common.{explicit_rules, rule_view, reached_text}
use Rattle.kt_graph.proofs.nodes.graph_builder.GraphBuilder.find_rules.Given as goal

abbrev pub invariant-loop-rule : goal.invariant-loop-rule
invariant-loop-rule l = map rule_view l.rules.items ++ l.rule-iterator ≡ explicit_rules l.self.book.now (reached_text l.name)
