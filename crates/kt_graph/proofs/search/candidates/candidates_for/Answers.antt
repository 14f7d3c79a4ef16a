use Rattle.kt_graph.proofs.lemmas.search.CandidateLemmas.{candidates_tried}
use Rattle.kt_graph.proofs.search.candidates.candidates_for.Goals as goal

pub returns-clause-tried : goal.returns-clause-tried
returns-clause-tried c =
    candidates_tried c.args.patterns.now c.args.name.now c.args.in_chain c.in_ok-candidates.candidates.items c.drop_any.new.candidates.items c.sort_by_size.new.candidates.items
    c.in_ok-candidates.ensures.within c.in_ok-candidates.ensures.matching c.drop_any.ensures c.in_ok-sort_by_size.ensures.sorted
