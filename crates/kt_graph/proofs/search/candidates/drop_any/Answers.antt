use Rattle.std.proofs.Common.{◌≡◌, true, not, ◌||◌, if◌then◌else◌, List, filter, sym, ◌∙◌, ap, rules}
use Rattle.kt_graph.proofs.Common.{list_any, filter_same, stays}
use Rattle.kt_graph.specs.declared.search.candidate.Candidate.{Candidate}
use Rattle.kt_graph.proofs.search.candidates.drop_any.Goals as goal

pub returns-then-drops_any : goal.returns-then-drops_any
returns-then-drops_any c =
    let kept : c.retain.new.self.items ≡ filter (stays c.args.patterns.now) c.args.candidates.now.items
    = filter_same _ (stays c.args.patterns.now) _ (λ x b f k. search rules) _ _ c.retain.ensures.filtered in
    let drops : (c.args.in_chain || list_any (λ (one : Candidate). not one.is_any) c.args.candidates.now.items) ≡ true
    = sym (c.drops_any.ensures ∙ ap (λ (ones : List Candidate). c.args.in_chain || list_any (λ (one : Candidate). not one.is_any) ones) c.as_slice.ensures.value)
    ∙ c.if-drops_any.true in
    kept ∙ sym (ap (λ b. if b then filter (stays c.args.patterns.now) c.args.candidates.now.items else c.args.candidates.now.items) drops)
