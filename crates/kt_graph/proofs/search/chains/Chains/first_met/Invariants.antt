use Rattle.std.proofs.Common.{◌≡◌, drop}
use Rattle.kt_graph.proofs.Common.{find, is_met, candidates_view}
use Rattle.kt_graph.proofs.search.chains.Chains.first_met.Given as goal

-- what is found from here is what is found from the start
abbrev pub invariant-loop-candidate : goal.invariant-loop-candidate
invariant-loop-candidate l =
    find (is_met l.self.known.now) (candidates_view l.self.patterns l.name (drop l.candidate-index l.candidates))
    ≡ find (is_met l.self.known.now) (candidates_view l.self.patterns l.name l.candidates)
