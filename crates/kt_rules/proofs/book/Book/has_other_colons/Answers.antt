use Rattle.std.proofs.Common.{◌∙◌, Some, ap}
use Rattle.kt_rules.proofs.Common.{Kind, is_double, xor, first_found, rule_view}
use Rattle.kt_rules.proofs.lemmas.book.GoalLemmas.{colons_by_first}
use Rattle.kt_rules.proofs.book.Book.has_other_colons.Goals as goal

pub returns-in-Some : goal.returns-in-Some
returns-in-Some c =
    let rules = c.self.inside.rules in
    c.differ_in_colons.ensures
    ∙ ap (λ (kind : Kind). xor (is_double kind) (is_double c.kind-kind.result)) c.kind.ensures
    ∙ ap (λ (kind : Kind). xor (is_double (rule_view c.in-Some.rule).0.kind) (is_double kind)) c.kind-kind.ensures
    ∙ colons_by_first rules.1 (rules.0, c.self.inside.spots.targets) (rules.0, c.self.inside.spots.recipes) c.self.inside.phony c.self.inside.suffixes c.self.invariant.kept
    c.args.self.now c.self.view_is c.args.entry.now c.args.name.now (Some (rule_view c.in-Some.rule))
    (c.in-Some.ensures ∙ ap (first_found rules.1) c.spots_of.ensures)
