use Rattle.std.proofs.Common.{true, false, sym, ◌∙◌}
use Rattle.kt_graph.proofs.lemmas.search.CandidateLemmas.{matches_unless}
use Rattle.kt_graph.proofs.search.candidates.candidate_of.Goals as goal

pub returns-then-keeps_short-clause-candidate : goal.returns-then-keeps_short-clause-candidate
returns-then-keeps_short-clause-candidate c =
    matches_unless c.args.number c.args.pattern.now c.args.name.now c.in_ok-candidate.candidate c.new.result.directory.now c.new.result.stem.now c.needs.result.now true
    c.in_ok-candidate.ensures.candidate c.new.ensures.directory c.new.ensures.stem c.needs.ensures (sym c.if-keeps_short.true ∙ c.keeps_short.ensures)

pub returns-else-keeps_short-clause-candidate : goal.returns-else-keeps_short-clause-candidate
returns-else-keeps_short-clause-candidate c =
    matches_unless c.args.number c.args.pattern.now c.args.name.now c.in_ok-candidate.candidate c.new.result.directory.now c.new.result.stem.now c.needs.result.now false
    c.in_ok-candidate.ensures.candidate c.new.ensures.directory c.new.ensures.stem c.needs.ensures (sym c.if-keeps_short.false ∙ c.keeps_short.ensures)
