use Rattle.std.proofs.Common.{rules}
use Rattle.kt_graph.proofs.lemmas.nodes.ReachedNames.{placed_none}
use Rattle.kt_graph.proofs.nodes.reached.ReachedNumbers.none.Goals as goal

pub returns-clause-placed : goal.returns-clause-placed
returns-clause-placed c = λ names.
    placed_none names c.new.result.items c.in_ok-from_elem.field-0.items c.args.count c.new.ensures.items (search rules)
