use Rattle.std.proofs.Common.{Some, None, sym, ◌∙◌}
use Rattle.kt_graph.proofs.lemmas.faults.TroubleLemmas.{file_trouble, is_reserved_there, none_repeated}
use Rattle.kt_graph.proofs.faults.first_trouble.path_trouble.Goals as goal

pub returns-then-has_plain_names : goal.returns-then-has_plain_names
returns-then-has_plain_names c = λ rules known goals graph.
    file_trouble rules known goals c.args.graph.now graph None
    (c.has_plain_names.ensures.quick_unreserved c.if-has_plain_names.true)
    (none_repeated c.args.graph.now graph.rises (c.has_plain_names.ensures.quick_canonical c.if-has_plain_names.true))

pub returns-then-branch : goal.returns-then-branch
returns-then-branch c = λ rules known goals graph.
    is_reserved_there rules known goals c.args.graph.now graph
    (rw c.nodes.ensures at (sym c.in_ok-has_always.ensures ∙ c.if-branch.true))

pub returns-in-Some : goal.returns-in-Some
returns-in-Some c = λ rules known goals graph.
    file_trouble rules known goals c.args.graph.now graph (Some c.in-Some.name.now)
    (rw c.nodes.ensures at (sym c.in_ok-has_always.ensures ∙ c.if-branch.false)) (rw c.in-Some.is at (c.in_ok-name.ensures graph.rises))

pub returns-in-None : goal.returns-in-None
returns-in-None c = λ rules known goals graph.
    file_trouble rules known goals c.args.graph.now graph None
    (rw c.nodes.ensures at (sym c.in_ok-has_always.ensures ∙ c.if-branch.false)) (rw c.in-None.is at (c.in_ok-name.ensures graph.rises))
