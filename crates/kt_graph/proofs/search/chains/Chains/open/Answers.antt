use Rattle.std.proofs.Common.{◌≡◌, ◌<◌, not, length, filter, sym, ap, ◌∙◌, subst, rules, All}
use Rattle.kt_graph.proofs.Common.{filter_same, All-filter, Candidate, candidates_for, is_used, IsFitWithin, candidates_view}
use Rattle.kt_graph.specs.declared.search.candidate.Candidate.{Candidate as HeldCandidate}
use Rattle.kt_graph.proofs.lemmas.search.CandidateViewLemmas.{begun_is, filter_told}
use Rattle.kt_graph.proofs.search.chains.Chains.open.Goals as goal

pub returns-clause-candidates : goal.returns-clause-candidates
returns-clause-candidates c =
    let patterns = c.args.self.now.patterns in
    let used = c.args.used.now in
    let kept : c.retain.new.self.items ≡ filter (λ (one : HeldCandidate). not (is_used used one.rule)) c.in_ok-open.open.items
    = filter_same _ (λ (one : HeldCandidate). not (is_used used one.rule)) _ (λ x b f k. search rules) _ _ c.retain.ensures.filtered in
    let tried : candidates_view patterns c.args.name.now c.in_ok-open.open.items ≡ candidates_for patterns (not c.is_empty.result) c.args.name.now
    = c.in_ok-open.ensures.tried in
    ap (candidates_view patterns c.args.name.now) kept ∙ filter_told patterns c.args.name.now (λ rule. not (is_used used rule)) c.in_ok-open.open.items
    ∙ ap (filter (λ (one : Candidate). not (is_used used one.rule))) (tried ∙ ap (λ begun. candidates_for patterns begun c.args.name.now) (begun_is used c.is_empty.result c.is_empty.ensures))

pub returns-clause-within : goal.returns-clause-within
returns-clause-within c =
    let patterns = c.args.self.now.patterns in
    let used = c.args.used.now in
    let kept : c.retain.new.self.items ≡ filter (λ (one : HeldCandidate). not (is_used used one.rule)) c.in_ok-open.open.items
    = filter_same _ (λ (one : HeldCandidate). not (is_used used one.rule)) _ (λ x b f k. search rules) _ _ c.retain.ensures.filtered in
    subst (λ ones. All (λ (one : HeldCandidate). (one.rule < length patterns) × IsFitWithin c.args.name.now one.fit) ones) (sym kept)
    (All-filter (λ (one : HeldCandidate). not (is_used used one.rule)) (λ (one : HeldCandidate). (one.rule < length patterns) × IsFitWithin c.args.name.now one.fit) c.in_ok-open.open.items
    c.in_ok-open.ensures.within)
