use Rattle.std.proofs.Common.{◌≡◌, ◌∙◌, ap, subst}
use Rattle.kt_graph.proofs.Common.{needs_for, rule_view, needs_view, needing_view, SaysNeeds, Part}
use Rattle.kt_graph.proofs.lemmas.nodes.BuildingLemmas.{joined_own}
use Rattle.kt_graph.proofs.nodes.building.double_part.Goals as goal

pub returns-clause-says : goal.returns-clause-says
returns-clause-says c =
    let made = rule_view c.args.rule in
    let needs = needs_for made.0 made.1 in
    let numbered = c.number_needs.new.numbered in
    let told : needing_view c.after-needing.result ≡ needs = c.after-needing.ensures ∙ joined_own (needs_view c.needs.result) ∙ c.needs.ensures in
    record {
      recipe = ap (λ (p : Part). p.recipe) (c.in_ok-part.ensures needs);
      stem = ap (λ (p : Part). p.stem) (c.in_ok-part.ensures needs);
      needs = subst (λ n. SaysNeeds c.number_needs.new.self n numbered.prerequisites.items numbered.order_only.items) told c.in_ok-number_needs.ensures.says;
    }
