use Rattle.kt_graph.proofs.Common.{rules, IsNonDecreasingBy-from_sort_by_key, answers_always, on_ok_weaker}
use Rattle.kt_graph.specs.declared.search.candidate.Candidate.{Candidate}
use Rattle.kt_graph.proofs.lemmas.search.CandidateLemmas.{sorted_by_size}
use Rattle.kt_graph.proofs.search.candidates.sort_by_size.Goals as goal

pub returns-clause-sorted : goal.returns-clause-sorted
returns-clause-sorted c =
    on_ok_weaker c.sort_by_key.result
    (λ sorted. sorted_by_size c.args.candidates.now.items c.sort_by_key.new.self.items
    (IsNonDecreasingBy-from_sort_by_key (λ (one : Candidate). one.fit.size) _ sorted (λ a r q k. search rules))
    (c.sort_by_key.ensures.stable (λ (one : Candidate). one.fit.size) (answers_always _ _ _ (λ f a r g h. search rules)))
    c.sort_by_key.ensures.permutation)
    c.sort_by_key.ensures.sorted
