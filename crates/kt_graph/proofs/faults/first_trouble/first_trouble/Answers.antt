use Rattle.std.proofs.Common.{Some, ap, sym, ◌∙◌, option_map}
use Rattle.kt_graph.proofs.Common.{MatchOption-at_none, MatchOption-at_some, IfOk-weaker, Text}
use Rattle.kt_graph.specs.inner.faults.Troubles.{trouble_view}
use Rattle.kt_graph.proofs.lemmas.faults.TroubleLemmas.{comes_first, goals_are}
use Rattle.kt_graph.proofs.faults.first_trouble.first_trouble.Goals as goal

pub returns-in-Some : goal.returns-in-Some
returns-in-Some c = λ rules known graph.
    sym (goals_are rules known c.args.goals.now c.args.graph.now graph) ∙ sym c.in-Some.ensures ∙ ap (λ (goal : Text). Some goal) (sym c.as_slice.ensures)

pub returns-in-Some-2 : goal.returns-in-Some-2
returns-in-Some-2 c = λ rules known graph. (
  record { made = sym (goals_are rules known c.args.goals.now c.args.graph.now graph) ∙ sym c.in_default.ensures },
  MatchOption-at_some _ _ c.in-Some-2.name c.in-Some-2.is (c.in_ok-name.ensures rules known c.args.goals.now graph),
)

pub returns : goal.returns
returns c =
    IfOk-weaker c.path_trouble.result _ _
    (λ trouble files rules known graph.
    comes_first rules known c.args.goals.now (option_map trouble_view trouble)
    (sym (goals_are rules known c.args.goals.now c.args.graph.now graph) ∙ sym c.in_default.ensures)
    (MatchOption-at_none _ _ c.in_default-2.is (c.in_ok-name.ensures rules known c.args.goals.now graph))
    (files rules known c.args.goals.now graph))
    c.path_trouble.ensures
