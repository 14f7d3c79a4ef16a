use Rattle.std.proofs.Common.{◌≡◌, ◌++◌, drop}
use Rattle.kt_graph.proofs.Common.{candidates_numbered, AreWithin, candidates_view}
use Rattle.kt_graph.proofs.search.candidates.of_numbers.Given as goal

abbrev pub invariant-loop-number : goal.invariant-loop-number
invariant-loop-number l = record {
  left : candidates_view l.patterns l.name l.candidates.items ++ candidates_numbered l.patterns l.name (drop l.number-index l.numbers)
      ≡ candidates_numbered l.patterns l.name l.numbers;
  within : AreWithin l.patterns l.name l.candidates.items;
}
