use Rattle.std.proofs.Common.{◌-◌, ◌^◌, length}
use Rattle.kt_graph.proofs.lemmas.nodes.BuilderLemmas.{HasBuilt}
use Rattle.kt_graph.proofs.nodes.graph_builder.GraphBuilder.build_all.Given as goal

abbrev pub invariant-loop-rules : goal.invariant-loop-rules
invariant-loop-rules l = HasBuilt l.fn.self l.self

abbrev pub decreases-loop-rules : goal.decreases-loop-rules
decreases-loop-rules l = 2 ^ 63 - length l.self.nodes
