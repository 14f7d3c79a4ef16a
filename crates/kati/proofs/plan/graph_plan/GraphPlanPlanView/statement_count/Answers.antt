use Rattle.std.proofs.Common.{◌≡◌, ◌+◌, ◌∙◌, ℕ, length, ap, rules, min}
use Rattle.kati.proofs.lemmas.plan.GraphPlanLemmas.{size_with_always, size_without_always}
use Rattle.kati.proofs.plan.graph_plan.GraphPlanPlanView.statement_count.Goals as goal

pub returns-then-self : goal.returns-then-self
returns-then-self c =
    let plan = c.args.self.now in
    let both : c.min-groups.result ≡ min (length plan.groups) (length plan.sketch) = search rules in
    ap (λ (n : ℕ). n + 1) both ∙ size_with_always plan.groups plan.sketch plan.always (search rules)

pub returns-else-self : goal.returns-else-self
returns-else-self c =
    let plan = c.args.self.now in
    let both : c.min-groups.result ≡ min (length plan.groups) (length plan.sketch) = search rules in
    both ∙ size_without_always plan.groups plan.sketch plan.always (search rules)
