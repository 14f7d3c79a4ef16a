use Rattle.std.proofs.Common.{◌≡◌, drop, filter_map, option_map, IfSome}
use Rattle.kt_graph.proofs.Common.{candidate_by, shortest, IsFitWithin, candidate_at}
use Rattle.kt_graph.proofs.lemmas.search.CandidateLemmas.{shortest_from}
use Rattle.kt_graph.proofs.search.candidates.shortest.Given as goal

abbrev pub invariant-loop-target : goal.invariant-loop-target
invariant-loop-target l = record {
  left : shortest_from (option_map (candidate_at l.name l.pattern) l.best) (filter_map (candidate_by l.number l.pattern l.name) (drop l.target-index l.target-items))
      ≡ shortest (filter_map (candidate_by l.number l.pattern l.name) l.pattern.targets);
  within : IfSome l.best (λ candidate. (candidate.rule ≡ l.number) × IsFitWithin l.name candidate.fit);
}
