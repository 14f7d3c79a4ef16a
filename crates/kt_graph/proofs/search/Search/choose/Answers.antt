use Rattle.kt_graph.proofs.Common.{IfOk, sym, subst, IfOk-weaker, IsFoundByTrees, Search, choice_of, choice_view}
use Rattle.kt_graph.proofs.lemmas.search.TreeLemmas.{found_as_trees, told_as_trees}
use Rattle.kt_graph.proofs.search.Search.choose.Goals as goal

pub returns-else-is_err-clause-trees : goal.returns-else-is_err-clause-trees
returns-else-is_err-clause-trees c =
    let rules = c.self.inside.chains.patterns in
    let known = c.self.inside.chains.known.now in
    let name = c.args.name.now in
    subst (λ (search : Search). IfOk c.choice-choice.result (IsFoundByTrees search.rules search.known name)) c.self.view_is
    (IfOk-weaker c.choice-choice.result _ (IsFoundByTrees rules known name)
    (λ choice told. subst (IsFoundByTrees rules known name) (sym told) (told_as_trees choice_view (choice_of rules known name) (found_as_trees _ _ _ _ _)))
    c.choice-choice.ensures.chosen)
