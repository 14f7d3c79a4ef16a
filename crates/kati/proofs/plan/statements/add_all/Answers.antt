use Rattle.std.proofs.Common.{◌≡◌, ◌∙◌, ◌∷◌, List, ap, fold, rules, sym}
use Rattle.kati.proofs.Common.{Text, with_name}
use Rattle.kati.proofs.plan.statements.add_all.Goals as goal

pub loop-name-preserved : goal.loop-name-preserved
loop-name-preserved c =
    let first : c.loop-name.name-iterator ≡ c.in-Some.name.now ∷ c.next.new.self = search rules in
    ap (λ (names : List Text). fold with_name names c.next.new.self) c.in_ok-add.ensures.added
    ∙ sym (ap (fold with_name c.loop-name.set) first)
    ∙ c.loop-name.invariant
