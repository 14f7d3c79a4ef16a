use Rattle.std.proofs.Common.{◌∙◌, ap, refl, subst}
use Rattle.kt_graph.proofs.Common.{take_rest, AreRowsOf, input_numbers, order_only_numbers, parts_stored, some_if}
use Rattle.kt_graph.proofs.lemmas.nodes.StoredLemmas.{head_from}
use Rattle.kt_graph.proofs.nodes.stored.head_from.Goals as goal

pub returns-clause-head : goal.returns-clause-head
returns-clause-head c =
    let held = c.args.held.now in
    let rows = c.args.rows.now in
    let new = c.put_inputs.new.rows in
    let start = c.args.start in
    let inputs = subst (λ l. AreRowsOf new (input_numbers (parts_stored rows l)) (order_only_numbers (parts_stored rows l)) c.in_ok-inputs.inputs)
    (take_rest held start) c.in_ok-inputs.ensures.are in
    head_from held rows new start c.args.maker.kind c.args.maker.made_with _ refl (ap (λ b. some_if b c.in_ok-making.making) c.is_some.ensures ∙ c.in_ok-making.ensures.same) c.requires.begins
    c.in_ok-parts.ensures.span.0 c.in_ok-parts.ensures.span.1 c.requires.within c.in_ok-inputs.ensures.grew inputs
