use Rattle.kt_graph.proofs.Common.{List, subst, Entry, AreAllNoted}
use Rattle.kt_graph.proofs.search.patterns.Patterns.of.Goals as goal

pub invariant_of-result : goal.invariant_of-result
invariant_of-result c =
    subst (λ (rules : List Entry). AreAllNoted c.in_ok-ends.ends rules) c.as_slice.ensures.value c.in_ok-ends.ensures
