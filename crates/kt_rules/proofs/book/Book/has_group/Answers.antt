use Rattle.std.proofs.Common.{◌∙◌, ◌||◌, Some, ap}
use Rattle.kt_rules.proofs.Common.{Kind, is_group, first_found, rule_view}
use Rattle.kt_rules.proofs.lemmas.book.GoalLemmas.{group_by_first}
use Rattle.kt_rules.proofs.book.Book.has_group.Goals as goal

pub returns-in-Some : goal.returns-in-Some
returns-in-Some c =
    let rules = c.self.inside.rules in
    c.either_is_group.ensures
    ∙ ap (λ (kind : Kind). is_group c.kind-kind.result || is_group kind) c.kind.ensures
    ∙ ap (λ (kind : Kind). is_group kind || is_group (rule_view c.in-Some.rule).0.kind) c.kind-kind.ensures
    ∙ group_by_first rules.1 (rules.0, c.self.inside.spots.targets) (rules.0, c.self.inside.spots.recipes) c.self.inside.phony c.self.inside.suffixes c.self.invariant.kept
    c.args.self.now c.self.view_is c.args.entry.now c.args.name.now (Some (rule_view c.in-Some.rule))
    (c.in-Some.ensures ∙ ap (first_found rules.1) c.spots_of.ensures)
