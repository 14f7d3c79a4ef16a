use Rattle.kt_graph.proofs.lemmas.search.NotingLemmas.{AreNotedTo}
use Rattle.kt_graph.proofs.search.patterns.ends_of.Given as goal

abbrev pub invariant-loop-number : goal.invariant-loop-number
invariant-loop-number l = AreNotedTo l.number l.ends l.rules
